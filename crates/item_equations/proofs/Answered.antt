-- What an equation asks for comes to what it says of the values of all places.
use Rattle.std.proofs.Common.{◌≡◌, ℕ, ℤ, ◌+ℤ◌, ◌-ℤ◌, Bool, true, false, List, [], ◌∷◌, refl, sym, ap, ◌∙◌}
use Rattle.std.specs.Prelude.{if◌then◌else◌, Option, None, Some, Result, Ok, Err, filter, fold}
use Rattle.anchors.specs.Table.{is_in_range, value_of, answer_of}
use Rattle.anchors.specs.declared.axis.AxisColumn.TheVariants as column
use Rattle.anchors.specs.declared.axis.AxisRecord.{AxisRecord}
use Rattle.anchors.specs.declared.row.Row.{Row}
use Rattle.anchors.specs.declared.row.Row.TheVariants as rows
use Rattle.anchors.specs.declared.table.Overflow.{Overflow}
use Rattle.anchors.specs.declared.walk.Asked.{Asked}
use Rattle.anchors.specs.declared.walk.Asked.TheVariants as asked
use Rattle.anchors.specs.Walk.{nothing}
use Rattle.type_table.specs.declared.item_slots.TheConstants.{ANCHORS_MARGINS}
use Rattle.qml_ast.specs.declared.eval_fault.EvalFault.{EvalFault}
use Rattle.qml_ast.specs.declared.eval_fault.EvalFault.TheVariants as fault
use Rattle.qml_ast.specs.declared.place.Place.{Place}
use Rattle.qml_ast.specs.declared.value.Value.{Value}
use Rattle.qml_ast.specs.declared.value.Value.TheVariants as value
use Rattle.settling.specs.Runs.{answer}
use Rattle.item_equations.specs.Asking.{Asking, gives, overflows, asks, bind, as_tree}
use Rattle.item_equations.specs.Children.{is_child, least, least_with, least_from, span, widened, extent_with, extent_from, or_none, ranged, length_of, children_place, children_size}
use Rattle.item_equations.specs.Family.{Family}
use Rattle.item_equations.specs.Lines.{serial_of, begin_of, extent_of, far_of, middle, middle_from, middle_of, line_at, line_of, place_at, place_of, size_at, size_of, target, target_of, tied, tied_line}
use Rattle.item_equations.specs.Native.{or_set, shown_place, size_by, own_size, or_own, shown_size, implicit_size, with_parent, inherited, as_int, equation}
use Rattle.item_equations.specs.Reads.{int_of, bool_of, number, flag, margin_by, margin}
use Rattle.item_equations.specs.Records as Records
use Rattle.item_equations.specs.Rows.{tie_at, answered, row_from, row}
use Rattle.item_equations.specs.Slots.{shown_of, set_of, slots_of}
use Rattle.item_equations.specs.Values as values
use Rattle.item_equations.specs.declared.axis.Axis.{Axis}
use Rattle.item_equations.specs.declared.children.Extent.{Extent}
use Rattle.item_equations.specs.declared.lines.TiedLine.{TiedLine}
use Rattle.item_equations.specs.declared.native.Native.{Native}
use Rattle.item_equations.specs.declared.native.Native.TheVariants as native
use Rattle.item_equations.specs.declared.ties.Kin.{Kin}
use Rattle.item_equations.specs.declared.ties.Kin.TheVariants.{Parent, Sibling}
use Rattle.item_equations.specs.declared.ties.Spot.{Spot}
use Rattle.item_equations.specs.declared.ties.Spot.TheVariants.{Near, Far, Center}
use Rattle.item_equations.specs.declared.ties.Tie.{Tie}

-- ---- where all places have a value
abbrev came : {A : Type 0} (v : Place → Value) → Asking A → Result A Overflow
came v (gives x) = Ok x
came v overflows = Err (record {})
came v (asks place next) = came v (next (v place))

abbrev next_of_result : {A B : Type 0} → Result A Overflow → (A → Result B Overflow) → Result B Overflow
next_of_result (Ok x) next = next x
next_of_result (Err overflow) next = Err overflow

came_bind : {A B : Type 0} (v : Place → Value) (m : Asking A) (next : A → Asking B) → came v (bind m next) ≡ next_of_result (came v m) (λ x. came v (next x))
unfolding bind
came_bind v (gives x) next = refl
came_bind v overflows next = refl
came_bind v (asks place rest) next = came_bind v (rest (v place)) next

goes : {A B : Type 0} (v : Place → Value) (m : Asking A) (next : A → Asking B) (x : A) → came v m ≡ Ok x → came v (bind m next) ≡ came v (next x)
goes v m next x h = came_bind v m next ∙ ap (λ r. next_of_result r (λ y. came v (next y))) h

module _ (family : Family) (v : Place → Value) where
  number_came : (p : Place) → came v (number p) ≡ Ok (int_of (v p))
  unfolding number
  number_came p = refl

  flag_came : (p : Place) → came v (flag p) ≡ Ok (bool_of (v p))
  unfolding flag
  flag_came p = refl

  margin_came : (item slot : ℕ) (axis : Axis) → came v (margin family item slot) ≡ Ok (values.margin family v axis item slot)
  unfolding margin
  margin_came item slot axis =
      goes v (number (shown_of item slot)) (margin_by (family.is_set (shown_of item slot)) item) (int_of (v (shown_of item slot))) (number_came (shown_of item slot)) ∙ by (family.is_set (shown_of item slot))
    where
      by : (b : Bool) → came v (margin_by b item (int_of (v (shown_of item slot)))) ≡ Ok (if b then int_of (v (shown_of item slot)) else int_of (v (shown_of item ANCHORS_MARGINS)))
      by true = refl
      by false = number_came (shown_of item ANCHORS_MARGINS)

  module _ (axis : Axis) where
    abbrev begin : Kin → ℤ
    begin = values.begin family v axis

    abbrev extent : Kin → ℤ
    extent = values.extent family v axis

    begin_came : (kin : Kin) → came v (begin_of axis kin) ≡ Ok (begin kin)
    unfolding begin_of
    begin_came (Parent item) = refl
    begin_came (Sibling item) = number_came (shown_of item (slots_of axis).place)

    extent_came : (kin : Kin) → came v (extent_of axis kin) ≡ Ok (extent kin)
    unfolding extent_of
    extent_came kin = number_came (shown_of (serial_of kin) (slots_of axis).size)

    far_came : (kin : Kin) → came v (far_of axis kin) ≡ Ok (begin kin +ℤ extent kin)
    unfolding far_of
    far_came kin =
        goes v (begin_of axis kin) (λ place. bind (extent_of axis kin) (λ size. gives (place +ℤ size))) (begin kin) (begin_came kin)
        ∙ goes v (extent_of axis kin) (λ size. gives (begin kin +ℤ size)) (extent kin) (extent_came kin)

    middle_came : (kin : Kin) → came v (middle_of axis kin) ≡ Ok (middle (begin kin) (extent kin))
    unfolding middle_of middle_from
    middle_came kin =
        goes v (begin_of axis kin) (middle_from axis kin) (begin kin) (begin_came kin)
        ∙ goes v (extent_of axis kin) (λ size. gives (middle (begin kin) size)) (extent kin) (extent_came kin)

    line_by : (kin : Kin) (spot : Spot) → came v (line_at axis kin spot) ≡ Ok (values.line_at family v axis kin spot)
    line_by kin Near = begin_came kin
    line_by kin Far = far_came kin
    line_by kin Center = middle_came kin

    line_came : (tie : Tie) → came v (line_of axis tie) ≡ Ok (values.line family v axis tie)
    unfolding line_of
    line_came tie = line_by tie.kin tie.spot

    place_by : (kin : Kin) (spot : Spot) → came v (place_at axis kin spot) ≡ Ok (values.target_at family v axis kin spot).place
    place_by kin Near = begin_came kin
    place_by kin Far = far_came kin
    place_by kin Center = begin_came kin

    place_came : (tie : Tie) → came v (place_of axis tie) ≡ Ok (values.targeted family v axis tie).place
    unfolding place_of
    place_came tie = place_by tie.kin tie.spot

    size_by_spot : (kin : Kin) (spot : Spot) → came v (size_at axis kin spot) ≡ Ok (values.target_at family v axis kin spot).size
    size_by_spot kin Near = refl
    size_by_spot kin Far = refl
    size_by_spot kin Center = extent_came kin

    size_came : (tie : Tie) → came v (size_of axis tie) ≡ Ok (values.targeted family v axis tie).size
    unfolding size_of
    size_came tie = size_by_spot tie.kin tie.spot

    target_came : (tie : Tie) → came v (target_of axis tie) ≡ Ok (values.targeted family v axis tie)
    unfolding target_of
    target_came tie =
        let t = values.targeted family v axis tie in
        goes v (place_of axis tie) (λ place. bind (size_of axis tie) (λ size. gives (target place size))) t.place (place_came tie)
        ∙ goes v (size_of axis tie) (λ size. gives (target t.place size)) t.size (size_came tie)

    module _ (item : ℕ) where
      abbrev near_tied : Tie → TiedLine
      near_tied tie = tied (values.line family v axis tie) (values.margin family v axis item (slots_of axis).near_margin)

      abbrev far_tied : Tie → TiedLine
      far_tied tie = tied (values.line family v axis tie) (values.margin family v axis item (slots_of axis).far_margin)

      abbrev shown_size_now : ℤ
      shown_size_now = int_of (v (shown_of item (slots_of axis).size))

      abbrev offset_now : ℤ
      offset_now = int_of (v (shown_of item (slots_of axis).offset))

      tied_came : (slot : ℕ) (tie : Tie) → came v (tied_line family axis item slot tie) ≡ Ok (tied (values.line family v axis tie) (values.margin family v axis item slot))
      unfolding tied_line
      tied_came slot tie =
          goes v (line_of axis tie) (λ line. bind (margin family item slot) (λ m. gives (tied line m))) (values.line family v axis tie) (line_came tie)
          ∙ goes v (margin family item slot) (λ m. gives (tied (values.line family v axis tie) m)) (values.margin family v axis item slot) (margin_came item slot axis)

      -- ---- the records of the rows
      filled_place_came : (tie : Tie) → came v (Records.filled_place family axis item tie) ≡ Ok (Records.filling_place (values.targeted family v axis tie).place (near_tied tie).margin)
      unfolding Records.filled_place
      filled_place_came tie =
          let p = (values.targeted family v axis tie).place in
          goes v (place_of axis tie) (λ place. bind (margin family item (slots_of axis).near_margin) (λ m. gives (Records.filling_place place m))) p (place_came tie)
          ∙ goes v (margin family item (slots_of axis).near_margin) (λ m. gives (Records.filling_place p m)) (near_tied tie).margin (margin_came item (slots_of axis).near_margin axis)

      filled_size_came : (tie : Tie) → came v (Records.filled_size family axis item tie) ≡ Ok (Records.filling_size (values.targeted family v axis tie).size (near_tied tie).margin (far_tied tie).margin)
      unfolding Records.filled_size
      filled_size_came tie =
          let s = (values.targeted family v axis tie).size in
          let n = (near_tied tie).margin in
          goes v (size_of axis tie) (λ size. bind (margin family item (slots_of axis).near_margin) (λ near. bind (margin family item (slots_of axis).far_margin) (λ far. gives (Records.filling_size size near far)))) s (size_came tie)
          ∙ goes v (margin family item (slots_of axis).near_margin) (λ near. bind (margin family item (slots_of axis).far_margin) (λ far. gives (Records.filling_size s near far))) n (margin_came item (slots_of axis).near_margin axis)
          ∙ goes v (margin family item (slots_of axis).far_margin) (λ far. gives (Records.filling_size s n far)) (far_tied tie).margin (margin_came item (slots_of axis).far_margin axis)

      centered_place_came : (tie : Tie) → came v (Records.centered_place family axis item tie) ≡ Ok (Records.centered (values.targeted family v axis tie) shown_size_now offset_now)
      unfolding Records.centered_place
      centered_place_came tie =
          let t = values.targeted family v axis tie in
          goes v (target_of axis tie) (λ center. bind (number (shown_of item (slots_of axis).size)) (λ size. bind (number (shown_of item (slots_of axis).offset)) (λ offset. gives (Records.centered center size offset)))) t (target_came tie)
          ∙ goes v (number (shown_of item (slots_of axis).size)) (λ size. bind (number (shown_of item (slots_of axis).offset)) (λ offset. gives (Records.centered t size offset))) shown_size_now (number_came (shown_of item (slots_of axis).size))
          ∙ goes v (number (shown_of item (slots_of axis).offset)) (λ offset. gives (Records.centered t shown_size_now offset)) offset_now (number_came (shown_of item (slots_of axis).offset))

      near_place_came : (tie : Tie) → came v (Records.near_place family axis item tie) ≡ Ok (Records.at_near (near_tied tie))
      unfolding Records.near_place
      near_place_came tie = goes v (Records.near_line family axis item tie) (λ near. gives (Records.at_near near)) (near_tied tie) (tied_came (slots_of axis).near_margin tie)

      far_place_came : (tie : Tie) → came v (Records.far_place family axis item tie) ≡ Ok (Records.at_far (far_tied tie) shown_size_now)
      unfolding Records.far_place
      far_place_came tie =
          goes v (Records.far_line family axis item tie) (λ far. bind (number (shown_of item (slots_of axis).size)) (λ size. gives (Records.at_far far size))) (far_tied tie) (tied_came (slots_of axis).far_margin tie)
          ∙ goes v (number (shown_of item (slots_of axis).size)) (λ size. gives (Records.at_far (far_tied tie) size)) shown_size_now (number_came (shown_of item (slots_of axis).size))

      size_between_came : (near far : Tie) → came v (Records.size_between family axis item near far) ≡ Ok (Records.between (near_tied near) (far_tied far))
      unfolding Records.size_between
      size_between_came near far =
          goes v (Records.far_line family axis item far) (λ f. bind (Records.near_line family axis item near) (λ n. gives (Records.between n f))) (far_tied far) (tied_came (slots_of axis).far_margin far)
          ∙ goes v (Records.near_line family axis item near) (λ n. gives (Records.between n (far_tied far))) (near_tied near) (tied_came (slots_of axis).near_margin near)

      size_from_near_came : (near center : Tie) → came v (Records.size_from_near family axis item near center) ≡ Ok (Records.near_and_center (near_tied near) (values.targeted family v axis center) offset_now)
      unfolding Records.size_from_near
      size_from_near_came near center =
          let t = values.targeted family v axis center in
          goes v (target_of axis center) (λ c. bind (number (shown_of item (slots_of axis).offset)) (λ o. bind (Records.near_line family axis item near) (λ n. gives (Records.near_and_center n c o)))) t (target_came center)
          ∙ goes v (number (shown_of item (slots_of axis).offset)) (λ o. bind (Records.near_line family axis item near) (λ n. gives (Records.near_and_center n t o))) offset_now (number_came (shown_of item (slots_of axis).offset))
          ∙ goes v (Records.near_line family axis item near) (λ n. gives (Records.near_and_center n t offset_now)) (near_tied near) (tied_came (slots_of axis).near_margin near)

      size_from_far_came : (far center : Tie) → came v (Records.size_from_far family axis item far center) ≡ Ok (Records.far_and_center (far_tied far) (values.targeted family v axis center) offset_now)
      unfolding Records.size_from_far
      size_from_far_came far center =
          let t = values.targeted family v axis center in
          goes v (Records.far_line family axis item far) (λ f. bind (target_of axis center) (λ c. bind (number (shown_of item (slots_of axis).offset)) (λ o. gives (Records.far_and_center f c o)))) (far_tied far) (tied_came (slots_of axis).far_margin far)
          ∙ goes v (target_of axis center) (λ c. bind (number (shown_of item (slots_of axis).offset)) (λ o. gives (Records.far_and_center (far_tied far) c o))) t (target_came center)
          ∙ goes v (number (shown_of item (slots_of axis).offset)) (λ o. gives (Records.far_and_center (far_tied far) t o)) offset_now (number_came (shown_of item (slots_of axis).offset))

-- ---- the row that ties make
lines_row : Option Tie → Option Tie → Option Tie → Row Tie Tie
lines_row (Some near) (Some far) center = rows.NearAndFar near far
lines_row (Some near) None None = rows.Near near
lines_row (Some near) None (Some center) = rows.NearAndCenter near center
lines_row None (Some far) None = rows.Far far
lines_row None (Some far) (Some center) = rows.FarAndCenter far center
lines_row None None (Some center) = rows.Center center
lines_row None None None = rows.Free

row_of_ties : Option Tie → Option Tie → Option Tie → Option Tie → Option Tie → Row Tie Tie
row_of_ties (Some tie) center_in near far center = rows.Fill tie
row_of_ties None (Some tie) near far center = rows.Center tie
row_of_ties None None near far center = lines_row near far center

module _ (family : Family) (v : Place → Value) (axis : Axis) (item : ℕ) where
  abbrev tie : Asked → Option Tie
  tie = values.tie family v axis item

  row_came : came v (row family axis item) ≡ Ok (row_of_ties (tie asked.Fill) (tie asked.CenterIn) (tie asked.Near) (tie asked.Far) (tie asked.Center))
  unfolding row row_from tie_at bind row_of_ties lines_row
  row_came = by_fill (tie asked.Fill)
    where
      by_center_after_near : (n : Tie) (o : Option Tie) →
          came v (row_from family axis item 1 (answered asked.Center o (answered asked.Far None (answered asked.Near (Some n) (answered asked.CenterIn None (answered asked.Fill None nothing))))))
          ≡ Ok (lines_row (Some n) None o)
      by_center_after_near n None = refl
      by_center_after_near n (Some c) = refl

      by_center_after_far : (f : Option Tie) (o : Option Tie) →
          came v (row_from family axis item 1 (answered asked.Center o (answered asked.Far f (answered asked.Near None (answered asked.CenterIn None (answered asked.Fill None nothing))))))
          ≡ Ok (lines_row None f o)
      by_center_after_far None None = refl
      by_center_after_far None (Some c) = refl
      by_center_after_far (Some f) None = refl
      by_center_after_far (Some f) (Some c) = refl

      by_far : (n : Option Tie) (o : Option Tie) →
          came v (row_from family axis item 2 (answered asked.Far o (answered asked.Near n (answered asked.CenterIn None (answered asked.Fill None nothing)))))
          ≡ Ok (lines_row n o (tie asked.Center))
      by_far None None = by_center_after_far None (tie asked.Center)
      by_far None (Some f) = by_center_after_far (Some f) (tie asked.Center)
      by_far (Some n) None = by_center_after_near n (tie asked.Center)
      by_far (Some n) (Some f) = refl

      by_near : (o : Option Tie) →
          came v (row_from family axis item 3 (answered asked.Near o (answered asked.CenterIn None (answered asked.Fill None nothing))))
          ≡ Ok (lines_row o (tie asked.Far) (tie asked.Center))
      by_near None = by_far None (tie asked.Far)
      by_near (Some n) = by_far (Some n) (tie asked.Far)

      by_center_in : (o : Option Tie) →
          came v (row_from family axis item 4 (answered asked.CenterIn o (answered asked.Fill None nothing)))
          ≡ Ok (row_of_ties None o (tie asked.Near) (tie asked.Far) (tie asked.Center))
      by_center_in None = by_near (tie asked.Near)
      by_center_in (Some t) = refl

      by_fill : (o : Option Tie) →
          came v (row_from family axis item 5 (answered asked.Fill o nothing))
          ≡ Ok (row_of_ties o (tie asked.CenterIn) (tie asked.Near) (tie asked.Far) (tie asked.Center))
      by_fill None = by_center_in (tie asked.CenterIn)
      by_fill (Some t) = refl

  -- ---- what the anchors give
  abbrev record_by : Option Tie → Option Tie → Option Tie → Option Tie → Option Tie → AxisRecord
  record_by = values.record_by family v axis item

  placed_by : (f ci n fa c : Option Tie) (rest : AxisRecord → Asking ℤ) (said : Option ℤ → Result ℤ Overflow) →
      ((a : AxisRecord) → came v (rest a) ≡ said (value_of a column.Place)) →
      came v (bind (Records.placed family axis item (row_of_ties f ci n fa c)) rest) ≡ said (value_of (record_by f ci n fa c) column.Place)
  unfolding Records.placed row_of_ties lines_row
  placed_by (Some t) ci n fa c rest said h = goes v (Records.filled_place family axis item t) rest _ (filled_place_came family v axis item t) ∙ h _
  placed_by None (Some t) n fa c rest said h = goes v (Records.centered_place family axis item t) rest _ (centered_place_came family v axis item t) ∙ h _
  placed_by None None (Some n) (Some fa) c rest said h = goes v (Records.near_place family axis item n) rest _ (near_place_came family v axis item n) ∙ h _
  placed_by None None (Some n) None None rest said h = goes v (Records.near_place family axis item n) rest _ (near_place_came family v axis item n) ∙ h _
  placed_by None None (Some n) None (Some c) rest said h = goes v (Records.near_place family axis item n) rest _ (near_place_came family v axis item n) ∙ h _
  placed_by None None None (Some fa) None rest said h = goes v (Records.far_place family axis item fa) rest _ (far_place_came family v axis item fa) ∙ h _
  placed_by None None None (Some fa) (Some c) rest said h = goes v (Records.size_from_far family axis item fa c) rest _ (size_from_far_came family v axis item fa c) ∙ h _
  placed_by None None None None (Some c) rest said h = goes v (Records.centered_place family axis item c) rest _ (centered_place_came family v axis item c) ∙ h _
  placed_by None None None None None rest said h = goes v (gives Records.free) rest Records.free refl ∙ h _

  sized_by : (f ci n fa c : Option Tie) (rest : AxisRecord → Asking ℤ) (said : Option ℤ → Result ℤ Overflow) →
      ((a : AxisRecord) → came v (rest a) ≡ said (value_of a column.Size)) →
      came v (bind (Records.sized family axis item (row_of_ties f ci n fa c)) rest) ≡ said (value_of (record_by f ci n fa c) column.Size)
  unfolding Records.sized row_of_ties lines_row
  sized_by (Some t) ci n fa c rest said h = goes v (Records.filled_size family axis item t) rest _ (filled_size_came family v axis item t) ∙ h _
  sized_by None (Some t) n fa c rest said h = goes v (gives Records.free) rest Records.free refl ∙ h _
  sized_by None None (Some n) (Some fa) c rest said h = goes v (Records.size_between family axis item n fa) rest _ (size_between_came family v axis item n fa) ∙ h _
  sized_by None None (Some n) None None rest said h = goes v (gives Records.free) rest Records.free refl ∙ h _
  sized_by None None (Some n) None (Some c) rest said h = goes v (Records.size_from_near family axis item n c) rest _ (size_from_near_came family v axis item n c) ∙ h _
  sized_by None None None (Some fa) None rest said h = goes v (gives Records.free) rest Records.free refl ∙ h _
  sized_by None None None (Some fa) (Some c) rest said h = goes v (Records.size_from_far family axis item fa c) rest _ (size_from_far_came family v axis item fa c) ∙ h _
  sized_by None None None None (Some c) rest said h = goes v (gives Records.free) rest Records.free refl ∙ h _
  sized_by None None None None None rest said h = goes v (gives Records.free) rest Records.free refl ∙ h _

  -- ---- place and size
  or_set_came : (a : AxisRecord) → came v (bind (Records.anchored_as column.Place a) (or_set family axis item)) ≡ values.or_else family v axis item (int_of (v (set_of item (slots_of axis).place))) (answer_of (value_of a column.Place))
  unfolding Records.anchored_as bind
  or_set_came a = by (answer_of (value_of a column.Place))
    where
      by : (o : Result (Option ℤ) Overflow) → came v (bind (Records.answered o) (or_set family axis item)) ≡ values.or_else family v axis item (int_of (v (set_of item (slots_of axis).place))) o
      by (Ok None) = number_came family v (set_of item (slots_of axis).place)
      by (Ok (Some n)) = refl
      by (Err overflow) = refl

  shown_place_came : came v (shown_place family axis item) ≡ values.place family v axis item
  unfolding shown_place
  shown_place_came =
      goes v (row family axis item) (λ found. bind (Records.placed family axis item found) (λ a. bind (Records.anchored_as column.Place a) (or_set family axis item))) _ row_came
      ∙ placed_by (tie asked.Fill) (tie asked.CenterIn) (tie asked.Near) (tie asked.Far) (tie asked.Center) (λ a. bind (Records.anchored_as column.Place a) (or_set family axis item))
      (λ o. values.or_else family v axis item (int_of (v (set_of item (slots_of axis).place))) (answer_of o)) or_set_came

  own_size_came : came v (own_size family axis item) ≡ Ok (values.own_size family v axis item)
  unfolding own_size
  own_size_came =
      goes v (number (set_of item (slots_of axis).size)) (size_by family axis item (family.is_set (set_of item (slots_of axis).size))) _ (number_came family v (set_of item (slots_of axis).size)) ∙ by (family.is_set (set_of item (slots_of axis).size))
    where
      by : (b : Bool) → came v (size_by family axis item b (int_of (v (set_of item (slots_of axis).size)))) ≡ Ok (if b then int_of (v (set_of item (slots_of axis).size)) else int_of (v (shown_of item (slots_of axis).implicit_size)))
      by true = refl
      by false = number_came family v (shown_of item (slots_of axis).implicit_size)

  or_own_came : (a : AxisRecord) → came v (bind (Records.anchored_as column.Size a) (or_own family axis item)) ≡ values.or_else family v axis item (values.own_size family v axis item) (answer_of (value_of a column.Size))
  unfolding Records.anchored_as bind
  or_own_came a = by (answer_of (value_of a column.Size))
    where
      by : (o : Result (Option ℤ) Overflow) → came v (bind (Records.answered o) (or_own family axis item)) ≡ values.or_else family v axis item (values.own_size family v axis item) o
      by (Ok None) = own_size_came
      by (Ok (Some n)) = refl
      by (Err overflow) = refl

  shown_size_came : came v (shown_size family axis item) ≡ values.size family v axis item
  unfolding shown_size
  shown_size_came =
      goes v (row family axis item) (λ found. bind (Records.sized family axis item found) (λ a. bind (Records.anchored_as column.Size a) (or_own family axis item))) _ row_came
      ∙ sized_by (tie asked.Fill) (tie asked.CenterIn) (tie asked.Near) (tie asked.Far) (tie asked.Center) (λ a. bind (Records.anchored_as column.Size a) (or_own family axis item))
      (λ o. values.or_else family v axis item (values.own_size family v axis item) (answer_of o)) or_own_came

  -- ---- the items in the item
  abbrev with_place : Option ℤ → ℕ → Option ℤ
  with_place before child = Some (least before (values.shows family v child (slots_of axis).place))

  least_came : (before : Option ℤ) (objects : List ℕ) → came v (least_from family axis item before objects) ≡ Ok (fold with_place before (filter (is_child family item) objects))
  unfolding least_from least_with bind number
  least_came before [] = refl
  least_came before (o ∷ os) = by (is_child family item o) refl (least_came before os) (least_came (with_place before o) os)
    where
      by : (b : Bool) → is_child family item o ≡ b → came v (least_from family axis item before os) ≡ Ok (fold with_place before (filter (is_child family item) os)) →
          came v (least_from family axis item (with_place before o) os) ≡ Ok (fold with_place (with_place before o) (filter (is_child family item) os)) →
          came v (bind (least_with family axis item before o) (λ found. least_from family axis item found os)) ≡ Ok (fold with_place before (filter (is_child family item) (o ∷ os)))
      by true is rest more = rw is more
      by false is rest more = rw is rest

  children_place_came : came v (children_place family axis item) ≡ Ok (values.children_place family v axis item)
  unfolding children_place
  children_place_came = goes v (least_from family axis item None (family.owned item)) (λ found. gives (or_none found)) _ (least_came None (family.owned item))

  abbrev with_span : Option Extent → ℕ → Option Extent
  with_span before child = Some (widened before (span (values.shows family v child (slots_of axis).place) (values.shows family v child (slots_of axis).size)))

  extents_came : (before : Option Extent) (objects : List ℕ) → came v (extent_from family axis item before objects) ≡ Ok (fold with_span before (filter (is_child family item) objects))
  unfolding extent_from extent_with bind number
  extents_came before [] = refl
  extents_came before (o ∷ os) = by (is_child family item o) refl (extents_came before os) (extents_came (with_span before o) os)
    where
      by : (b : Bool) → is_child family item o ≡ b → came v (extent_from family axis item before os) ≡ Ok (fold with_span before (filter (is_child family item) os)) →
          came v (extent_from family axis item (with_span before o) os) ≡ Ok (fold with_span (with_span before o) (filter (is_child family item) os)) →
          came v (bind (extent_with family axis item before o) (λ found. extent_from family axis item found os)) ≡ Ok (fold with_span before (filter (is_child family item) (o ∷ os)))
      by true is rest more = rw is more
      by false is rest more = rw is rest

  length_came : (e : Option Extent) → came v (length_of e) ≡ values.length_of family v axis item e
  unfolding length_of ranged
  length_came None = refl
  length_came (Some e) = by (is_in_range (e.end -ℤ e.begin))
    where
      by : (b : Bool) → came v (if b then gives (e.end -ℤ e.begin) else overflows) ≡ (if b then Ok (e.end -ℤ e.begin) else Err (record {}))
      by true = refl
      by false = refl

  children_size_came : came v (children_size family axis item) ≡ values.length_of family v axis item (values.children_extent family v axis item)
  unfolding children_size
  children_size_came = goes v (extent_from family axis item None (family.owned item)) length_of _ (extents_came None (family.owned item)) ∙ length_came (values.children_extent family v axis item)

module _ (family : Family) (v : Place → Value) where
  inherited_came : (slot item : ℕ) → came v (inherited family slot item) ≡ Ok (values.inherited family v slot item)
  unfolding inherited bind flag
  inherited_came slot item = goes v (flag (set_of item slot)) (with_parent family slot (family.parent item)) _ (flag_came family v (set_of item slot)) ∙ by (family.parent item) (bool_of (v (set_of item slot)))
    where
      by : (parent : Option ℕ) (own : Bool) → came v (with_parent family slot parent own) ≡ Ok (values.and_parent family v slot own parent)
      by None own = refl
      by (Some parent) own = refl

  as_int_came : (m : Asking ℤ) (r : Result ℤ Overflow) → came v m ≡ r → next_of_result r (λ n. Ok (value.Int n)) ≡ came v (as_int family m)
  as_int_came m r h = ap (λ x. next_of_result x (λ n. Ok (value.Int n))) (sym h) ∙ sym (came_bind v m (λ n. gives (value.Int n)))

  abbrev faulted : Result Value Overflow → Result Value EvalFault
  faulted (Ok x) = Ok x
  faulted (Err overflow) = Err fault.Overflow

  int_faulted : (m : Asking ℤ) (r : Result ℤ Overflow) → came v m ≡ r → faulted (came v (as_int family m)) ≡ values.as_value family v r
  int_faulted m r h = ap faulted (sym (as_int_came m r h)) ∙ by r
    where
      by : (r : Result ℤ Overflow) → faulted (next_of_result r (λ n. Ok (value.Int n))) ≡ values.as_value family v r
      by (Ok n) = refl
      by (Err overflow) = refl

  equation_came : (n : Native) (item : ℕ) → faulted (came v (equation family n item)) ≡ values.value_shown family v n item
  unfolding equation values.value_shown implicit_size number
  equation_came (native.Place axis) item = int_faulted (shown_place family axis item) _ (shown_place_came family v axis item)
  equation_came (native.Size axis) item = int_faulted (shown_size family axis item) _ (shown_size_came family v axis item)
  equation_came (native.ImplicitSize axis) item = int_faulted (implicit_size family axis item) _ (number_came family v (set_of item (slots_of axis).implicit_size))
  equation_came (native.Inherited slot) item = ap faulted (came_bind v (inherited family slot item) (λ b. gives (value.Bool b)) ∙ ap (λ r. next_of_result r (λ b. Ok (value.Bool b))) (inherited_came slot item))
  equation_came (native.ChildrenPlace axis) item = int_faulted (children_place family axis item) _ (children_place_came family v axis item)
  equation_came (native.ChildrenSize axis) item = int_faulted (children_size family axis item) _ (children_size_came family v axis item)

  -- over values that are read so
  tree_came : (raw : Place → Value) (read : Value → Value) (m : Asking Value) → answer (as_tree read m) raw ≡ faulted (came (λ p. read (raw p)) m)
  unfolding as_tree
  tree_came raw read (gives x) = refl
  tree_came raw read overflows = refl
  tree_came raw read (asks p next) = tree_came raw read (next (read (raw p)))

-- The answer of an equation over all values is what it says of them.
pub answers : (family : Family) (raw : Place → Value) (read : Value → Value) (n : Native) (item : ℕ) →
    answer (as_tree read (equation family n item)) raw ≡ values.value_shown family (λ p. read (raw p)) n item
answers family raw read n item = tree_came family (λ p. read (raw p)) raw read (equation family n item) ∙ equation_came family (λ p. read (raw p)) n item
