use Rattle.std.proofs.Common.{◌≡◌, ◌++◌, map, take}
use Rattle.object_tree.specs.Handlers.{handler_seen, handler_of}
use Rattle.object_tree.proofs.instance.Layer.add_handlers.Given as goal

-- those so far
abbrev pub invariant-loop-decl : goal.invariant-loop-decl
invariant-loop-decl l = map handler_seen l.handlers.items ≡ map handler_seen l.fn.handlers.items ++ map (handler_of l.serial l.self) (take l.decl-index l.decls)
