-- Which rows of the table of anchors give a size.
use Rattle.std.specs.Prelude.{Bool, true, false}
use Rattle.anchors.specs.declared.row.Row.{Row}
use Rattle.anchors.specs.declared.row.Row.TheVariants.{Fill, Center, NearAndFar, Near, Far, NearAndCenter, FarAndCenter, Free}

-- two lines of the item are tied, or it fills
abbrev pub gives_size : {T L : Type 0} → Row T L → Bool
gives_size (Fill target) = true
gives_size (Center target) = false
gives_size (NearAndFar near far) = true
gives_size (Near near) = false
gives_size (Far far) = false
gives_size (NearAndCenter near center) = true
gives_size (FarAndCenter far center) = true
gives_size Free = false
