-- Frames written one after another.
use Rattle.std.proofs.Common.{◌≡◌, ℕ, zero, suc, ◌+◌, ◌<◌, List, [], ◌∷◌, ◌++◌, Option, refl, sym, ap, ◌∙◌, arith, add-one, append-nil}
use Rattle.std.specs.Io.KnownBytes.{Appends}
use Rattle.std.proofs.lemmas.List.{append_assoc}
use Rattle.outside.specs.Bytes.{AppendsPart}
use Rattle.outside.proofs.Appending.{Appends-then_part}
use Rattle.stage_run.specs.declared.journal.Move.{Move}
use Rattle.stage_run.specs.declared.journal.Move.TheVariants.{Command}
use Rattle.stage_run.specs.Flaws.{IsPrefix}
use Rattle.stage_run.specs.Moves.{commands}
use Rattle.stage_run.specs.Written.{image_of, written, copies}
use Rattle.type_loader.specs.declared.unit.Unit.{Unit as UnitOf}

commands-next : (journal after : List Move) (done : ℕ) → journal ≡ commands done → after ≡ journal ++ Command (done + 1) ∷ [] → after ≡ commands (done + 1)
commands-next journal after done known pushed = rw add-one (pushed ∙ ap (λ moves. moves ++ Command (done + 1) ∷ []) known ∙ ap (λ n. commands done ++ Command n ∷ []) (add-one done))

-- a command moved whose image was written in part
pub prefix-next : (image : List ℕ) (count done : ℕ) (journal after : List Move) (first mid last : Option (List ℕ)) → done < count → journal ≡ commands done → Appends first mid (copies image done)
    → after ≡ journal ++ Command (done + 1) ∷ [] → AppendsPart mid last image → IsPrefix image count after first last
prefix-next image count done journal after first mid last below known written pushed part = record {
  done = done + 1;
  within = omega arith;
  moves = commands-next journal after done known pushed;
  bytes = rw add-one (Appends-then_part first mid last (copies image done) image written part);
}

written-append : (unit : UnitOf) (first second : List Move) → written unit (first ++ second) ≡ written unit first ++ written unit second
written-append unit [] second = refl
written-append unit (Command n ∷ first) second = ap (λ bytes. image_of unit ++ bytes) (written-append unit first second) ∙ sym (append_assoc (image_of unit) (written unit first) (written unit second))

-- what the first commands write is so many copies of the image
pub written-commands : (unit : UnitOf) (n : ℕ) → copies (image_of unit) n ≡ written unit (commands n)
written-commands unit zero = refl
written-commands unit (suc n) =
    ap (λ bytes. bytes ++ image_of unit) (written-commands unit n)
    ∙ ap (λ bytes. written unit (commands n) ++ bytes) (sym (append-nil (image_of unit)))
    ∙ sym (written-append unit (commands n) (Command (suc n) ∷ []))
