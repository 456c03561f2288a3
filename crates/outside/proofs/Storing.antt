-- Laws of a store made of files, where the newest of a name stands first.
use Rattle.std.proofs.Common.{◌≡◌, ℕ, Bool, true, false, cond, List, [], ◌∷◌, length, None, Some, ap, sym, ◌∙◌, nat_eq, string_bytes, arith}
use Rattle.std.specs.Ordering.{nat_cmp}
use Rattle.std.specs.Cmp.Lexicographic.{slice_cmp, pointwise, nat_list_cmp_total, texts_ties}
use Rattle.std.specs.FinMap.{get, get-insert, get-empty}
use Rattle.outside.specs.declared.memory_files.MemoryFile.{MemoryFile}
use Rattle.outside.specs.FilesInMemory.{store_of}

-- a name is sought in the first file and then in the others
get-first : (file : MemoryFile) (others : List MemoryFile) (name : List ℕ) → get (store_of (file ∷ others)) name ≡ cond (pointwise nat_eq name (string_bytes file.name)) (Some file.bytes.items) (get (store_of others) name)
get-first file others name =
    get-insert nat_list_cmp_total (store_of others) (string_bytes file.name) file.bytes.items name
    ∙ ap (λ b. cond b (Some file.bytes.items) (get (store_of others) name)) (sym (texts_ties name (string_bytes file.name)))

-- the first file has the name
pub get-found : (files others : List MemoryFile) (file : MemoryFile) (name first : List ℕ) (same : Bool) → files ≡ file ∷ others → first ≡ string_bytes file.name → same ≡ pointwise nat_eq name first → same ≡ true → get (store_of files) name ≡ Some file.bytes.items
get-found files others file name first same e f s t =
    let tie : pointwise nat_eq name (string_bytes file.name) ≡ true = ap (pointwise nat_eq name) (sym f) ∙ sym s ∙ t in
    ap (λ l. get (store_of l) name) e ∙ get-first file others name ∙ ap (λ b. cond b (Some file.bytes.items) (get (store_of others) name)) tie

-- the first file has another name
pub get-passed : (files others : List MemoryFile) (file : MemoryFile) (name first : List ℕ) (same : Bool) → files ≡ file ∷ others → first ≡ string_bytes file.name → same ≡ pointwise nat_eq name first → same ≡ false → get (store_of files) name ≡ get (store_of others) name
get-passed files others file name first same e f s t =
    let tie : pointwise nat_eq name (string_bytes file.name) ≡ false = ap (pointwise nat_eq name) (sym f) ∙ sym s ∙ t in
    ap (λ l. get (store_of l) name) e ∙ get-first file others name ∙ ap (λ b. cond b (Some file.bytes.items) (get (store_of others) name)) tie

-- no file is left
pub get-nothing : (files : List MemoryFile) (name : List ℕ) → length files ≡ 0 → get (store_of files) name ≡ None
get-nothing [] name e = get-empty (slice_cmp nat_cmp) name
get-nothing (file ∷ files) name e = absurd (omega arith)
