use Rattle.std.proofs.Common.{◌≡◌, ◌++◌, take, vec_capacity}
use Rattle.scene.proofs.keys.push_all.Given as goal

-- the keys so far stand at the end
abbrev pub invariant-loop-key : goal.invariant-loop-key
invariant-loop-key l = (l.released.items ≡ l.initial.released.items ++ take l.key-index l.keys) × (vec_capacity l.released ≡ vec_capacity l.initial.released)
