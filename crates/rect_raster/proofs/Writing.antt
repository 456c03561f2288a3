-- What a sink has got after the two pieces of a pixmap, or after a failure.
use Rattle.std.proofs.Common.{◌≡◌, ℕ, List, ◌++◌, Option, Result, Ok, Err, OnOk, OnErr, ap, ◌∙◌, subst}
use Rattle.std.specs.Io.KnownBytes.{Appends}
use Rattle.outside.specs.Bytes.{AppendsPart}
use Rattle.outside.proofs.Appending.{Appends-append, AppendsPart-more, Appends-then_part}
use Rattle.rect_raster.specs.Picture.{Picture, picture_of, ppm, ppm_header}

-- a pixmap is its two pieces, one after the other
pub ppm-from_pieces : (picture : Picture) (width height : ℕ) (header pixels items : List ℕ) → picture_of width height items ≡ picture → header ≡ ppm_header width height → pixels ≡ items
    → header ++ pixels ≡ ppm picture
unfolding ppm
ppm-from_pieces picture width height header pixels items view_is header_is pixels_are =
    ap (λ l. l ++ pixels) header_is ∙ ap (λ l. ppm_header width height ++ l) pixels_are ∙ ap ppm view_is

-- the first piece failed
pub OnErr-first : {T E : Type 0} (result : Result T E) (old new : Option (List ℕ)) (first second all : List ℕ) → first ++ second ≡ all → AppendsPart old new first → OnErr result (AppendsPart old new all)
OnErr-first result old new first second all joined p =
    let part = subst (AppendsPart old new) joined (AppendsPart-more old new first second p) in
    elim result as (λ r. OnErr r (AppendsPart old new all)) [ Ok _ ↦ tt | Err _ ↦ part ]

module _ {T E : Type 0} (result : Result T E) (old mid new : Option (List ℕ)) (first second all : List ℕ) (joined : first ++ second ≡ all) where
  -- the second piece was written
  pub OnOk-second : Appends old mid first → OnOk result (Appends mid new second) → OnOk result (Appends old new all)
  OnOk-second p =
      elim result as (λ r. OnOk r (Appends mid new second) → OnOk r (Appends old new all))
      [ Ok _ ↦ λ q. subst (Appends old new) joined (Appends-append old mid new first second p q) | Err _ ↦ λ _. tt ]

  -- the second piece failed
  pub OnErr-second : Appends old mid first → OnErr result (AppendsPart mid new second) → OnErr result (AppendsPart old new all)
  OnErr-second p =
      elim result as (λ r. OnErr r (AppendsPart mid new second) → OnErr r (AppendsPart old new all))
      [ Ok _ ↦ λ _. tt | Err _ ↦ λ q. subst (AppendsPart old new) joined (Appends-then_part old mid new first second p q) ]
