use Rattle.object_tree.proofs.objects.Objects.+found_in.Given as goal

abbrev pub decreases-found_in : goal.decreases-found_in
decreases-found_in l = l.left
