use Rattle.std.proofs.Common.{◌≡◌, ℕ, ◌+◌, ◌*◌, ◌≤◌, take, drop, length}
use Rattle.std.specs.FinMap as map
use Rattle.sg_nodes.specs.Forest.{IsForest}
use Rattle.sg_nodes.specs.Stored.{forest_of}
use Rattle.sg_sync.specs.Own.{IsIn}
use Rattle.sg_sync.specs.Counting.{made_for, freed_for, total, AllKeep}
use Rattle.sg_sync.specs.Dressing.{Dressing, AreLinked, HasNoParent, SamePaints}
use Rattle.sg_sync.proofs.renew.renew_all.Given as goal

abbrev pub invariant-loop-serial : goal.invariant-loop-serial
invariant-loop-serial l = record {
  dressing : Dressing (forest_of l.nodes) l.scene.items l.scene.root (drop l.serial-index l.serials);
  linked : AreLinked (forest_of l.nodes) l.scene.items l.serials;
  no_parent : HasNoParent (forest_of l.nodes) l.scene.items l.scene.root;
  paints : SamePaints l.initial.scene.items l.scene.items;
  others : (serial : ℕ) → ¬ IsIn (take l.serial-index l.serials) serial → map.get l.scene.items serial ≡ map.get l.initial.scene.items serial;
  keep : AllKeep l.initial.scene.items l.scene.items;
  scene : l.scene ≡ record l.initial.scene { items = l.scene.items; dirty = drop l.serial-index l.serials };
  room : 6 * length l.serials ≤ l.nodes.spare + 6 * l.serial-index;
  few_made : l.done.made ≤ l.initial.done.made + 6 * l.serial-index;
  few_released : l.done.released ≤ l.initial.done.released + 6 * l.serial-index;
  counted : l.done ≡ record l.initial.done {
    made = l.initial.done.made + total made_for l.initial.scene.items (take l.serial-index l.serials);
    released = l.initial.done.released + total freed_for l.initial.scene.items (take l.serial-index l.serials);
  };
  forest : IsForest (forest_of l.nodes);
}
