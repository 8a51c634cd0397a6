-- What assignments hold before and after the work.
use Rattle.std.proofs.Common.{◌≡◌, ℕ, zero, suc, ◌+◌, ◌-◌, ◌<◌, ◌≤◌, Bool, true, false, List, [], ◌∷◌, ◌++◌, length, map, take, drop, refl, sym, ap, ◌∙◌, subst, arith}
use Rattle.std.specs.Prelude.{slice_get, slice_index, slice_index_or, Option, Some, None, MatchOption, IfNone, IfSome}
use Rattle.std.specs.List.{remove}
use Rattle.std.proofs.lemmas.Bool.{false≢true}
use Rattle.std.proofs.lemmas.List.{append-nil, map-append, append_assoc, length-append, length-map}
use Rattle.cany_io.specs.Faults.{HasRisen}
use Rattle.cany_yard.specs.Seats.{SeatParts, AreFirstSeats}
use Rattle.cany_crew.specs.declared.assignment.Assignment.{Assignment}
use Rattle.cany_crew.specs.declared.assignment.Assignment.TheVariants.{Bus, Node}
use Rattle.cany_crew.specs.Gates.{IsHeldAt, IsOutcome, NoneFell}
use Rattle.cany_crew.specs.Assignment.{AssignmentParts}
use Rattle.cany_crew.specs.Assignments.{counts_of, slots_of, has_bus, AreFrom, refused_or, first_refused, IsWorked, IsAfterWork, AreAfterWork}
use Rattle.cany_crew.proofs.GateFacts.{none_fell, fell_with, held_with}

-- ---- the first of a list

pub first_taken : {X : Type 0} (xs ys : List X) (x : X) → 0 < length xs → x ≡ slice_index_or xs 0 x → ys ≡ remove xs 0 → xs ≡ x ∷ ys
first_taken [] ys x some is e = absurd (omega arith)
first_taken (y ∷ xs) ys x some is e = λ k. (sym is) k ∷ (sym e) k

-- ---- one assignment more

counts_more : {L B G : Type 0} (assignments : List (Assignment L B G)) (assignment : AssignmentParts) → counts_of (assignments ++ Node assignment ∷ []) ≡ counts_of assignments ++ assignment.refusals ∷ []
counts_more [] assignment = refl
counts_more (Bus seat ∷ assignments) assignment = counts_more assignments assignment
counts_more (Node first ∷ assignments) assignment = ap (λ counts. first.refusals ∷ counts) (counts_more assignments assignment)

bus_more : {L B G : Type 0} (assignments : List (Assignment L B G)) (assignment : Assignment L B G) → has_bus assignments ≡ true → has_bus (assignments ++ assignment ∷ []) ≡ true
bus_more [] assignment h = absurd (false≢true h)
bus_more (Bus seat ∷ assignments) assignment h = refl
bus_more (Node first ∷ assignments) assignment h = bus_more assignments assignment h

order_more : {L B G : Type 0} (node : ℕ) (assignments : List (Assignment L B G)) (assignment : AssignmentParts) → AreFrom node assignments → assignment.node ≡ node + length (counts_of assignments)
    → AreFrom node (assignments ++ Node assignment ∷ [])
order_more node [] assignment h e = (omega arith, tt)
order_more node (Bus seat ∷ assignments) assignment h e = order_more node assignments assignment h e
order_more node (Node first ∷ assignments) assignment h e = (h.0, order_more (node + 1) assignments assignment h.1 (omega arith))

length_more : (xs : List ℕ) (x : ℕ) → length (xs ++ x ∷ []) ≡ length xs + 1
length_more [] x = refl
length_more (y ∷ xs) x = let e = length_more xs x in omega arith

-- seats of the nodes from this one on
pub record AreSeatsFrom (node : ℕ) (seats : List SeatParts) : Type 0 where
  pub each : (k : ℕ) (seat : SeatParts) → slice_get seats k ≡ Some seat → seat.node ≡ node + k

-- so many assignments of nodes were made, and the other gates and seats are left
pub record AreFilled {L B G X : Type 0} (refusals : X → ℕ) (made : ℕ) (assignments : List (Assignment L B G)) (gates all : List X) (seats : List SeatParts) : Type 0 where
  pub counts : counts_of assignments ++ map refusals gates ≡ map refusals all
  pub count : length (counts_of assignments) ≡ made
  pub with_bus : has_bus assignments ≡ true
  pub order : AreFrom 0 assignments
  pub others : AreSeatsFrom made seats

pub first_seats : (count : ℕ) (seats : List SeatParts) → AreFirstSeats count seats → AreSeatsFrom 0 seats
first_seats count seats are = record { each = λ k seat is. let e : seat.node ≡ k = ap (λ (s : SeatParts). s.node) (are.each k seat is) in omega arith }

pub filled_none : {L B G X : Type 0} (refusals : X → ℕ) (assignments before : List (Assignment L B G)) (bus : ℕ) (gates : List X) (seats : List SeatParts) → before ≡ []
    → assignments ≡ before ++ Bus bus ∷ [] → AreSeatsFrom 0 seats → AreFilled refusals 0 assignments gates gates seats
filled_none {L} {B} {G} refusals assignments before bus gates seats none e from =
    let one : Bus bus ∷ [] ≡ assignments = sym (e ∙ ap (λ (ps : List (Assignment L B G)). ps ++ Bus bus ∷ []) none) in
    subst (λ (ps : List (Assignment L B G)). AreFilled refusals 0 ps gates gates seats) one
    (record { counts = refl; count = refl; with_bus = refl; order = tt; others = from })

next_seats : (node : ℕ) (seat : SeatParts) (seats : List SeatParts) → AreSeatsFrom node (seat ∷ seats) → AreSeatsFrom (node + 1) seats
next_seats node seat seats from = record { each = λ k s is. let e = from.each (suc k) s is in omega arith }

pub next_seat : {L B G X : Type 0} (refusals : X → ℕ) (i : ℕ) (assignments : List (Assignment L B G)) (gates all : List X) (seats after : List SeatParts) (seat : SeatParts)
    → AreFilled refusals i assignments gates all seats → 0 < length seats → seat ≡ slice_index_or seats 0 seat → after ≡ remove seats 0 → seat.node ≡ i
next_seat refusals i assignments gates all seats after seat so some is e =
    let first = first_taken seats after seat some is e in
    let from : AreSeatsFrom i (seat ∷ after) = subst (λ (s : List SeatParts). AreSeatsFrom i s) first so.others in
    let at = from.each 0 seat refl in
    omega arith

pub filled_next : {L B G X : Type 0} (refusals : X → ℕ) (i : ℕ) (assignments assignments' : List (Assignment L B G)) (gates gates' all : List X) (seats seats' : List SeatParts)
    (gate : X) (seat : SeatParts) (assignment : AssignmentParts) → AreFilled refusals i assignments gates all seats
    → 0 < length seats → seat ≡ slice_index_or seats 0 seat → seats' ≡ remove seats 0
    → 0 < length gates → gate ≡ slice_index_or gates 0 gate → gates' ≡ remove gates 0
    → assignment.node ≡ i → assignment.refusals ≡ refusals gate → assignments' ≡ assignments ++ Node assignment ∷ [] → AreFilled refusals (i + 1) assignments' gates' all seats'
filled_next {L} {B} {G} {X} refusals i assignments assignments' gates gates' all seats seats' gate seat assignment so some is rest some' is' rest' node counts e =
    subst (λ (ps : List (Assignment L B G)). AreFilled refusals (i + 1) ps gates' all seats') (sym e) (record {
      counts =
          ap (λ (c : List ℕ). c ++ map refusals gates') (counts_more assignments assignment)
          ∙ append_assoc (counts_of assignments) (assignment.refusals ∷ []) (map refusals gates')
          ∙ ap (λ n. counts_of assignments ++ n ∷ map refusals gates') counts
          ∙ ap (λ (g : List X). counts_of assignments ++ map refusals g) (sym (first_taken gates gates' gate some' is' rest'))
          ∙ so.counts;
      count = let e = length_more (counts_of assignments) assignment.refusals in let c = so.count in ap length (counts_more assignments assignment) ∙ omega arith;
      with_bus = bus_more assignments (Node assignment) so.with_bus;
      order = order_more 0 assignments assignment so.order (let c = so.count in omega arith);
      others = next_seats i seat seats' (subst (λ (s : List SeatParts). AreSeatsFrom i s) (first_taken seats seats' seat some is rest) so.others);
    })

-- ---- the assignments that are left

-- the gates that came back, and those at the assignments that are left
pub record AreEmptied {L B G X : Type 0} (refusals : X → ℕ) (refused_at : X → Option ℕ) (bus : Bool) (all assignments : List (Assignment L B G)) (before gates : List X) (seats_before seats : ℕ) : Type 0 where
  pub counts : map refusals gates ++ counts_of assignments ≡ map refusals before ++ counts_of all
  pub slots : map refused_at gates ++ slots_of assignments ≡ map refused_at before ++ slots_of all
  pub count : seats + length (counts_of assignments) ≡ seats_before + length (counts_of all)
  pub with_bus : has_bus all ≡ true → bus ≡ false → has_bus assignments ≡ true

-- a gate more went back
map_more : {X Y : Type 0} (f : X → Y) (gates gates' : List X) (gate : X) (y : Y) (rest all : List Y) → y ≡ f gate → gates' ≡ gates ++ gate ∷ []
    → map f gates ++ y ∷ rest ≡ all → map f gates' ++ rest ≡ all
map_more {X} {Y} f gates gates' gate y rest all same more so =
    ap (λ (g : List X). map f g ++ rest) more
    ∙ ap (λ (c : List Y). c ++ rest) (map-append f gates (gate ∷ []))
    ∙ append_assoc (map f gates) (f gate ∷ []) rest
    ∙ ap (λ z. map f gates ++ z ∷ rest) (sym same)
    ∙ so

pub emptied_none : {L B G X : Type 0} (refusals : X → ℕ) (refused_at : X → Option ℕ) (bus : Bool) (all : List (Assignment L B G)) (gates : List X) (seats : ℕ)
    → AreEmptied refusals refused_at bus all all gates gates seats seats
emptied_none refusals refused_at bus all gates seats = record { counts = refl; slots = refl; count = refl; with_bus = λ has none. has }

pub emptied_bus : {L B G X : Type 0} (refusals : X → ℕ) (refused_at : X → Option ℕ) (bus bus' : Bool) (all assignments assignments' : List (Assignment L B G)) (before gates : List X) (seats_before seats : ℕ)
    (assignment : Assignment L B G) (seat : ℕ) → AreEmptied refusals refused_at bus all assignments before gates seats_before seats
    → 0 < length assignments → assignment ≡ slice_index_or assignments 0 assignment → assignments' ≡ remove assignments 0 → assignment ≡ Bus seat → bus' ≡ true
    → AreEmptied refusals refused_at bus' all assignments' before gates seats_before seats
emptied_bus {L} {B} {G} refusals refused_at bus bus' all assignments assignments' before gates seats_before seats assignment seat so some is rest e has =
    let first : assignments ≡ Bus seat ∷ assignments' = first_taken assignments assignments' assignment some is rest ∙ ap (λ (p : Assignment L B G). p ∷ assignments') e in
    let now = subst (λ (ps : List (Assignment L B G)). AreEmptied refusals refused_at bus all ps before gates seats_before seats) first so in
    record { counts = now.counts; slots = now.slots; count = now.count; with_bus = λ all none. absurd (false≢true (sym none ∙ has)) }

pub emptied_node : {L B G X : Type 0} (refusals : X → ℕ) (refused_at : X → Option ℕ) (bus : Bool) (all assignments assignments' : List (Assignment L B G)) (before gates gates' : List X) (seats_before seats seats' : ℕ)
    (assignment : Assignment L B G) (parts : AssignmentParts) (gate : X) → AreEmptied refusals refused_at bus all assignments before gates seats_before seats
    → 0 < length assignments → assignment ≡ slice_index_or assignments 0 assignment → assignments' ≡ remove assignments 0 → assignment ≡ Node parts
    → parts.refusals ≡ refusals gate → parts.refused_at ≡ refused_at gate → gates' ≡ gates ++ gate ∷ [] → seats' ≡ seats + 1
    → AreEmptied refusals refused_at bus all assignments' before gates' seats_before seats'
emptied_node {L} {B} {G} {X} refusals refused_at bus all assignments assignments' before gates gates' seats_before seats seats' assignment parts gate so some is rest e counts slots more one =
    let first : assignments ≡ Node parts ∷ assignments' = first_taken assignments assignments' assignment some is rest ∙ ap (λ (p : Assignment L B G). p ∷ assignments') e in
    let now = subst (λ (ps : List (Assignment L B G)). AreEmptied refusals refused_at bus all ps before gates seats_before seats) first so in
    record {
      counts = map_more refusals gates gates' gate parts.refusals (counts_of assignments') _ counts more now.counts;
      slots = map_more refused_at gates gates' gate parts.refused_at (slots_of assignments') _ slots more now.slots;
      count = let s = now.count in omega arith;
      with_bus = now.with_bus;
    }

-- where none is left, all came back
pub emptied_all : {L B G X : Type 0} (refusals : X → ℕ) (refused_at : X → Option ℕ) (bus : Bool) (all assignments : List (Assignment L B G)) (before gates : List X) (seats_before seats : ℕ) → length assignments ≡ 0
    → AreEmptied refusals refused_at bus all assignments before gates seats_before seats
    → (map refusals gates ≡ map refusals before ++ counts_of all) × (map refused_at gates ≡ map refused_at before ++ slots_of all) × (seats ≡ seats_before + length (counts_of all))
emptied_all refusals refused_at bus all [] before gates seats_before seats none so =
    (sym (append-nil (map refusals gates)) ∙ so.counts, sym (append-nil (map refused_at gates)) ∙ so.slots, (let count = so.count in omega arith))
emptied_all refusals refused_at bus all (x ∷ xs) before gates seats_before seats none so = absurd (omega arith)

-- and the seat of the bus is one of them
pub emptied_some : {L B G X : Type 0} (refusals : X → ℕ) (refused_at : X → Option ℕ) (bus : Bool) (all assignments : List (Assignment L B G)) (before gates : List X) (seats_before seats : ℕ) → length assignments ≡ 0
    → AreEmptied refusals refused_at bus all assignments before gates seats_before seats → has_bus all ≡ true → bus ≡ false → ⊥
emptied_some refusals refused_at bus all [] before gates seats_before seats none so has without = false≢true (so.with_bus has without)
emptied_some refusals refused_at bus all (x ∷ xs) before gates seats_before seats none so has without = absurd (omega arith)

-- ---- the work

tails : {L B G : Type 0} (x y : Assignment L B G) (xs ys : List (Assignment L B G)) → AreAfterWork (x ∷ xs) (y ∷ ys) → AreAfterWork xs ys
tails x y xs ys h = record { len = let e = h.len in omega arith; each = λ i d less. h.each (suc i) d (omega arith) }

heads : {L B G : Type 0} (x y : Assignment L B G) (xs ys : List (Assignment L B G)) → AreAfterWork (x ∷ xs) (y ∷ ys) → IsAfterWork x y
heads x y xs ys h = h.each 0 x (omega arith)

-- what is known of the gates of assignments after the work
pub record AreCounted (node : ℕ) (before after : List ℕ) (last : List (Option ℕ)) (held : Option (ℕ × ℕ)) : Type 0 where
  pub fell : NoneFell before after
  pub passed : held ≡ None → after ≡ before
  pub found : (at slot : ℕ) → held ≡ Some (at, slot) → (node ≤ at) × IsHeldAt (at - node) slot before after last

-- the gate of the first of them passed all
held_more : (node slot old new : ℕ) (at : Option ℕ) (before after : List ℕ) (last : List (Option ℕ)) → new ≡ old → IsHeldAt node slot before after last
    → IsHeldAt (suc node) slot (old ∷ before) (new ∷ after) (at ∷ last)
held_more node slot old new at before after last same held = record {
  refused = ((let within = held.refused.0 in omega arith), held.refused.1);
  slot_is = held.slot_is;
  least = least;
}
  where
    least : (lesser : ℕ) → lesser < suc node → slice_index (new ∷ after) lesser ≡ slice_index (old ∷ before) lesser
    least zero less = same
    least (suc lesser) less = held.least lesser (omega arith)

-- it refused a pass
held_first : (slot old new : ℕ) (at : Option ℕ) (before after : List ℕ) (last : List (Option ℕ)) → HasRisen old new → at ≡ Some slot
    → IsHeldAt 0 slot (old ∷ before) (new ∷ after) (at ∷ last)
held_first slot old new at before after last risen is = record { refused = (omega arith, risen); slot_is = is; least = λ lesser less. absurd (omega (arith, less)) }

counted_more : (node : ℕ) (p q : AssignmentParts) (before after : List ℕ) (last : List (Option ℕ)) (held : Option (ℕ × ℕ)) → p.node ≡ node → IsWorked p q
    → AreCounted (node + 1) before after last held
    → AreCounted node (p.refusals ∷ before) (q.refusals ∷ after) (q.refused_at ∷ last) (refused_or q.node q.refused held)
counted_more node p q before after last held is worked rest = record {
  fell = record { len = ap suc rest.fell.len; each = fell };
  passed = passed q.refused worked.gate.1;
  found = found q.refused worked.gate.1;
}
  where
    fell : (i : ℕ) → slice_index (p.refusals ∷ before) i ≤ slice_index (q.refusals ∷ after) i
    fell zero = worked.gate.0
    fell (suc i) = rest.fell.each i

    passed : (refused : Option ℕ) → MatchOption refused (q.refusals ≡ p.refusals) (λ slot. HasRisen p.refusals q.refusals × (q.refused_at ≡ Some slot))
        → refused_or q.node refused held ≡ None
        → q.refusals ∷ after ≡ p.refusals ∷ before
    passed None same none = λ k. same k ∷ (rest.passed none) k
    passed (Some slot) risen none = absurd (grind arith)

    found : (refused : Option ℕ) → MatchOption refused (q.refusals ≡ p.refusals) (λ slot. HasRisen p.refusals q.refusals × (q.refused_at ≡ Some slot))
        → (at slot : ℕ) → refused_or q.node refused held ≡ Some (at, slot)
        → (node ≤ at) × IsHeldAt (at - node) slot (p.refusals ∷ before) (q.refusals ∷ after) (q.refused_at ∷ last)
    found None same at slot e =
        let f = rest.found at slot e in
        let n : suc (at - (node + 1)) ≡ at - node = let le = f.0 in omega arith in (
          (let le = f.0 in omega arith),
          subst (λ k. IsHeldAt k slot (p.refusals ∷ before) (q.refusals ∷ after) (q.refused_at ∷ last)) n
              (held_more (at - (node + 1)) slot p.refusals q.refusals q.refused_at before after last same f.1),
        )
    found (Some s) told at slot e =
        let here : q.node ≡ at = grind arith in
        let this : s ≡ slot = grind arith in
        let n : 0 ≡ at - node = let w = worked.node in omega (arith, here, is) in (
          (let w = worked.node in omega (arith, here, is)),
          subst (λ k. IsHeldAt k slot (p.refusals ∷ before) (q.refusals ∷ after) (q.refused_at ∷ last)) n
              (held_first slot p.refusals q.refusals q.refused_at before after last told.0 (told.1 ∙ ap (λ (x : ℕ). Some x) this)),
        )

pub counted : {L B G : Type 0} (node : ℕ) (before after : List (Assignment L B G)) → AreFrom node before → AreAfterWork before after
    → AreCounted node (counts_of before) (counts_of after) (slots_of after) (first_refused after)
counted node [] [] from h = record { fell = none_fell [] [] refl; passed = λ none. refl; found = λ at slot e. absurd (grind arith) }
counted node [] (y ∷ ys) from h = absurd (let e = h.len in omega arith)
counted node (x ∷ xs) [] from h = absurd (let e = h.len in omega arith)
counted node (Bus s ∷ xs) (Bus t ∷ ys) from h = counted node xs ys from (tails (Bus s) (Bus t) xs ys h)
counted node (Bus s ∷ xs) (Node q ∷ ys) from h = absurd (heads (Bus s) (Node q) xs ys h)
counted node (Node p ∷ xs) (Bus t ∷ ys) from h = absurd (heads (Node p) (Bus t) xs ys h)
counted node (Node p ∷ xs) (Node q ∷ ys) from h =
    counted_more node p q (counts_of xs) (counts_of ys) (slots_of ys) (first_refused ys) from.0 (heads (Node p) (Node q) xs ys h)
    (counted (node + 1) xs ys from.1 (tails (Node p) (Node q) xs ys h))

pub bus_stays : {L B G : Type 0} (before after : List (Assignment L B G)) → AreAfterWork before after → has_bus after ≡ has_bus before
bus_stays [] [] h = refl
bus_stays [] (y ∷ ys) h = absurd (let e = h.len in omega arith)
bus_stays (x ∷ xs) [] h = absurd (let e = h.len in omega arith)
bus_stays (Bus s ∷ xs) (Bus t ∷ ys) h = refl
bus_stays (Bus s ∷ xs) (Node q ∷ ys) h = absurd (heads (Bus s) (Node q) xs ys h)
bus_stays (Node p ∷ xs) (Bus t ∷ ys) h = absurd (heads (Node p) (Bus t) xs ys h)
bus_stays (Node p ∷ xs) (Node q ∷ ys) h = bus_stays xs ys (tails (Node p) (Node q) xs ys h)

pub counts_stay : {L B G : Type 0} (before after : List (Assignment L B G)) → AreAfterWork before after → length (counts_of after) ≡ length (counts_of before)
counts_stay [] [] h = refl
counts_stay [] (y ∷ ys) h = absurd (let e = h.len in omega arith)
counts_stay (x ∷ xs) [] h = absurd (let e = h.len in omega arith)
counts_stay (Bus s ∷ xs) (Bus t ∷ ys) h = counts_stay xs ys (tails (Bus s) (Bus t) xs ys h)
counts_stay (Bus s ∷ xs) (Node q ∷ ys) h = absurd (heads (Bus s) (Node q) xs ys h)
counts_stay (Node p ∷ xs) (Bus t ∷ ys) h = absurd (heads (Node p) (Bus t) xs ys h)
counts_stay (Node p ∷ xs) (Node q ∷ ys) h = ap suc (counts_stay xs ys (tails (Node p) (Node q) xs ys h))

slots_count : {L B G : Type 0} (assignments : List (Assignment L B G)) → length (slots_of assignments) ≡ length (counts_of assignments)
slots_count [] = refl
slots_count (Bus seat ∷ assignments) = slots_count assignments
slots_count (Node assignment ∷ assignments) = ap suc (slots_count assignments)

-- ---- from the first assignment to the last gate that went back

-- a slice of all items of a vector
pub slice_whole : {X : Type 0} (n : ℕ) (xs rest : List X) → length xs ≡ n → take n (xs ++ drop (length xs) rest) ≡ xs
slice_whole n xs rest len = ap (λ k. take k (xs ++ drop (length xs) rest)) (sym len) ∙ front xs (drop (length xs) rest)
  where
    front : {X : Type 0} (ys zs : List X) → take (length ys) (ys ++ zs) ≡ ys
    front [] zs = refl
    front (y ∷ ys) zs = λ i. y ∷ (front ys zs) i

-- where the gates that went back stand behind the others, and are turned to the front
turned : {X : Type 0} (all front back : List X) (n : ℕ) → all ≡ back ++ front → length front ≡ n → drop (length all - n) all ++ take (length all - n) all ≡ front ++ back
turned {X} all front back n e len =
    let long : length (back ++ front) ≡ length back + length front = length-append back front in
    let m : length all - n ≡ length back = let l = ap length e in omega (arith, long, len) in
    ap (λ k. drop k all ++ take k all) m ∙ ap (λ (xs : List X). drop (length back) xs ++ take (length back) xs) e
    ∙ ap (λ (xs : List X). xs ++ take (length back) (back ++ front)) (drop_front back front) ∙ ap (λ (xs : List X). front ++ xs) (take_front back front)
  where
    drop_front : (xs ys : List X) → drop (length xs) (xs ++ ys) ≡ ys
    drop_front [] ys = refl
    drop_front (x ∷ xs) ys = drop_front xs ys

    take_front : (xs ys : List X) → take (length xs) (xs ++ ys) ≡ xs
    take_front [] ys = refl
    take_front (x ∷ xs) ys = ap (λ (zs : List X). x ∷ zs) (take_front xs ys)

-- what a function gives at gates that went behind others and were turned to the front
turned_map : {X Y : Type 0} (f : X → Y) (others back new : List X) (front : List Y) (n : ℕ) → length front ≡ n → map f back ≡ map f others ++ front
    → new ≡ drop (length back - n) back ++ take (length back - n) back → map f new ≡ front ++ map f others
turned_map {X} {Y} f others back new front n len came turn =
    let same : length (map f back) ≡ length back = length-map back f in
    ap (λ (xs : List X). map f xs) turn ∙ map-append f (drop (length back - n) back) (take (length back - n) back)
    ∙ ap (λ (ys : List Y). ys ++ map f (take (length back - n) back)) (map_drop (length back - n) back)
    ∙ ap (λ (ys : List Y). drop (length back - n) (map f back) ++ ys) (map_take (length back - n) back)
    ∙ ap (λ k. drop (k - n) (map f back) ++ take (k - n) (map f back)) (sym same)
    ∙ turned (map f back) front (map f others) n came len
  where
    map_drop : (k : ℕ) (xs : List X) → map f (drop k xs) ≡ drop k (map f xs)
    map_drop zero xs = refl
    map_drop (suc k) [] = refl
    map_drop (suc k) (x ∷ xs) = map_drop k xs

    map_take : (k : ℕ) (xs : List X) → map f (take k xs) ≡ take k (map f xs)
    map_take zero xs = refl
    map_take (suc k) [] = refl
    map_take (suc k) (x ∷ xs) = ap (λ (ys : List Y). f x ∷ ys) (map_take k xs)

of_held : {P : (at slot : ℕ) → Type 0} (o : Option (ℕ × ℕ)) → ((at slot : ℕ) → o ≡ Some (at, slot) → P at slot) → IfSome o (λ found. P found.0 found.1)
of_held None f = tt
of_held (Some x) f = f x.0 x.1 refl

-- a pass that was refused is that of one of the nodes
pub held_within : {L B G : Type 0} (before after : List (Assignment L B G)) (held : Option (ℕ × ℕ)) (n : ℕ) → AreFrom 0 before → AreAfterWork before after
    → length (counts_of before) ≡ n → held ≡ first_refused after → IfSome held (λ found. found.0 < n)
held_within before after held n from h count is =
    let so = counted 0 before after from h in
    let len = so.fell.len in
    of_held held (λ at slot e. let below = (so.found at slot (sym is ∙ e)).1.refused.0 in omega (arith, below, len, count))

outcome_of : {L B G : Type 0} (before after : List (Assignment L B G)) (old others new : List ℕ) (last others_last : List (Option ℕ)) (held : Option (ℕ × ℕ)) → AreFrom 0 before
    → AreAfterWork before after → counts_of before ++ others ≡ old → new ≡ counts_of after ++ others → last ≡ slots_of after ++ others_last → held ≡ first_refused after
    → IsOutcome old new last held
outcome_of before after old others new last others_last held from h was now at is =
    let so = counted 0 before after from h in
    let len = so.fell.len in
    let with_old : IsOutcome (counts_of before ++ others) (counts_of after ++ others) (slots_of after ++ others_last) held = record {
      fell = fell_with (counts_of before) (counts_of after) others so.fell;
      passed = passed held (λ none. ap (λ (c : List ℕ). c ++ others) (so.passed (sym is ∙ none)));
      refused = of_held held (λ node slot e.
          let f = so.found node slot (sym is ∙ e) in
          held_with node slot (counts_of before) (counts_of after) others (slots_of after) others_last len
          (subst (λ k. IsHeldAt k slot (counts_of before) (counts_of after) (slots_of after)) (let le = f.0 in omega arith) f.1));
    } in
    subst (λ (c : List (Option ℕ)). IsOutcome old new c held) (sym at)
    (subst (λ (c : List ℕ). IsOutcome old c (slots_of after ++ others_last) held) (sym now)
    (subst (λ (c : List ℕ). IsOutcome c (counts_of after ++ others) (slots_of after ++ others_last) held) was with_old))
  where
    passed : {P : Type 0} (o : Option (ℕ × ℕ)) → (o ≡ None → P) → IfNone o P
    passed None f = f refl
    passed (Some x) f = tt

-- the gates went behind the others and were turned to the front
pub outcome_is : {L B G X : Type 0} (refusals : X → ℕ) (refused_at : X → Option ℕ) (before after : List (Assignment L B G)) (old others back new : List X) (held : Option (ℕ × ℕ)) (n : ℕ)
    → AreFrom 0 before → AreAfterWork before after → length (counts_of before) ≡ n
    → counts_of before ++ map refusals others ≡ map refusals old
    → map refusals back ≡ map refusals others ++ counts_of after → map refused_at back ≡ map refused_at others ++ slots_of after
    → new ≡ drop (length back - n) back ++ take (length back - n) back → held ≡ first_refused after
    → IsOutcome (map refusals old) (map refusals new) (map refused_at new) held
outcome_is refusals refused_at before after old others back new held n from h count was came slots turn is =
    let so = counted 0 before after from h in
    let len : length (counts_of after) ≡ n = so.fell.len ∙ count in
    outcome_of before after (map refusals old) (map refusals others) (map refusals new) (map refused_at new) (map refused_at others) held from h was
    (turned_map refusals others back new (counts_of after) n len came turn)
    (turned_map refused_at others back new (slots_of after) n (slots_count after ∙ len) slots turn)
    is
