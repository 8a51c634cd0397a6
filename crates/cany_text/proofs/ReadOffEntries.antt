-- An entry of a log is read off its line, where its numbers are short and its payload is bytes.
use Rattle.std.proofs.Common.{◌≡◌, ◌≢◌, ℕ, zero, suc, ◌+◌, ◌-◌, ◌/◌, ◌%◌, ◌^◌, ◌<◌, ◌==◌, Bool, true, List, [], ◌∷◌, map, refl, ap, sym, ◌∙◌, subst, inl, inr, arith}
use Rattle.std.specs.Prelude.{if◌then◌else◌, filter, nat_lt, slice_index, slice_index_or, codes, decimal}
use Rattle.std.specs.List.{AllByRecursion, flat_map, list_all, join_with_byte, range_with_len}
use Rattle.std.proofs.Math.Nat.{div-add-mod, mod-lt, div-lt_iff_lt-mul}
use Rattle.std.proofs.lemmas.Bool.{cases_lt, eqb-true, false_from_ne_true}
use Rattle.std.proofs.lemmas.Fmt.{decimal_injective}
use Rattle.cany_base.specs.declared.log_entry.LogEntry.{LogEntry}
use Rattle.cany_base.specs.declared.log_entry.LogEntry.TheVariants.{Deliver, Failed, View}
use Rattle.cany_base.specs.declared.message.MsgKey.{MsgKey}
use Rattle.cany_base.specs.declared.message.Service.{Service}
use Rattle.cany_base.specs.declared.message.Service.TheVariants as service
use Rattle.cany_base.specs.Limits.{most_nodes}
use Rattle.cany_base.specs.Nodes.{Nodes, AllBelow, has, node_numbers}
use Rattle.cany_base.proofs.NodesFacts.{same_nodes}
use Rattle.cany_text.specs.ReportLines.{line_of, byte_text, hexadecimal_digit, payload_text, numbers_text, set_text, entry_line}
use Rattle.cany_text.specs.TextNames.{service_name}
use Rattle.cany_model.proofs.Among.{Among, Each-filter}
use Rattle.cany_text.proofs.ReadOffLines.{payload_lacks, set_lacks}
use Rattle.cany_text.proofs.ReadOffLists.{among_numbers, at_number, cons_same, stands_in, tests_same, lists_same}
use Rattle.cany_text.proofs.ReadOffText.{Lacks, decimals_lack, fields_same, join_lacks, lacks_itself, line_fields, no_space}

abbrev pub AreBytes : List ℕ → Type 0
AreBytes bytes = AllByRecursion (λ b. b < 256) bytes

-- the numbers of the entry are short enough for a line, its payload is bytes, and its set has nodes
-- alone that there can be
abbrev pub IsWritable : LogEntry → Type 0
IsWritable (Deliver slot by msg payload) = (slot < 2 ^ 64) × (msg.origin < 2 ^ 64) × (msg.seq < 2 ^ 64) × AreBytes payload
IsWritable (Failed slot node cycle) = (slot < 2 ^ 64) × (node < 2 ^ 64) × (cycle < 2 ^ 64)
IsWritable (View slot number members) = (slot < 2 ^ 64) × (number < 2 ^ 64) × AllBelow most_nodes members

-- ---- payloads

abbrev digit_back : ℕ → ℕ
digit_back byte = if nat_lt byte 58 then byte - 48 else byte - 87

abbrev is_read_back : ℕ → Bool
is_read_back n = digit_back (hexadecimal_digit n) == n

digits_back : list_all is_read_back (range_with_len 0 16) ≡ true
digits_back = refl

digit_same : (m n : ℕ) → m < 16 → n < 16 → hexadecimal_digit m ≡ hexadecimal_digit n → m ≡ n
digit_same m n h k e = sym (back m h) ∙ ap digit_back e ∙ back n k
  where
    back : (d : ℕ) → d < 16 → digit_back (hexadecimal_digit d) ≡ d
    back d below = eqb-true (digit_back (hexadecimal_digit d)) d
        (at_number is_read_back 0 16 d digits_back (omega arith) (omega (arith, below)))

byte_same : (b c : ℕ) → b < 256 → c < 256 → hexadecimal_digit (b / 16) ≡ hexadecimal_digit (c / 16)
    → hexadecimal_digit (b % 16) ≡ hexadecimal_digit (c % 16) → b ≡ c
byte_same b c h k high low =
    let some : 0 < 16 = omega arith in
    let upper : b / 16 ≡ c / 16 = digit_same (b / 16) (c / 16) ((div-lt_iff_lt-mul some).1 (omega (arith, h)))
    ((div-lt_iff_lt-mul some).1 (omega (arith, k))) high in
    let lower : b % 16 ≡ c % 16 = digit_same (b % 16) (c % 16) (mod-lt b some) (mod-lt c some) low in
    omega (arith, div-add-mod b 16, div-add-mod c 16, upper, lower)

bytes_same : (p q : List ℕ) → AreBytes p → AreBytes q → flat_map byte_text p ≡ flat_map byte_text q → p ≡ q
bytes_same [] [] a b e = refl
bytes_same [] (y ∷ q) a b e = absurd (cc)
bytes_same (x ∷ p) [] a b e = absurd (cc)
bytes_same (x ∷ p) (y ∷ q) a b e =
    let high = cons_same (hexadecimal_digit (x / 16)) (hexadecimal_digit (y / 16))
    (hexadecimal_digit (x % 16) ∷ flat_map byte_text p) (hexadecimal_digit (y % 16) ∷ flat_map byte_text q) e in
    let low = cons_same (hexadecimal_digit (x % 16)) (hexadecimal_digit (y % 16)) (flat_map byte_text p) (flat_map byte_text q) high.1 in
    let first : x ≡ y = byte_same x y a.0 b.0 high.0 low.0 in
    let rest = bytes_same p q a.1 b.1 low.1 in
    cc

payload_same : (p q : List ℕ) → AreBytes p → AreBytes q → payload_text p ≡ payload_text q → p ≡ q
unfolding payload_text
payload_same p q a b e = bytes_same p q a b (cons_same 120 120 (flat_map byte_text p) (flat_map byte_text q) e).1

-- ---- sets

-- a set with a node is not written by a dash
no_dash : (n : ℕ) (ns : List ℕ) → codes "-" ≡ join_with_byte 44 (map decimal (n ∷ ns)) → ⊥
no_dash n ns e =
    lacks_itself 45 [] (subst (Lacks 45) (sym e)
    (join_lacks 45 44 (omega arith) (map decimal (n ∷ ns)) (decimals_lack 45 (omega arith) (n ∷ ns))))

numbers_same : (ms ns : List ℕ) → AllByRecursion (λ n. n < 2 ^ 64) ms → AllByRecursion (λ n. n < 2 ^ 64) ns
    → numbers_text ms ≡ numbers_text ns → ms ≡ ns
numbers_same [] [] a b e = refl
numbers_same [] (n ∷ ns) a b e = absurd (no_dash n ns e)
numbers_same (m ∷ ms) [] a b e = absurd (no_dash m ms (sym e))
numbers_same (m ∷ ms) (n ∷ ns) a b e =
    lists_same decimal (λ n. n < 2 ^ 64) decimal_injective (m ∷ ms) (n ∷ ns) a b
    (fields_same 44 (decimal m) (decimal n) (map decimal ms) (map decimal ns) (decimals_lack 44 (omega arith) (m ∷ ms))
    (decimals_lack 44 (omega arith) (n ∷ ns)) e)

all_short : (first many : ℕ) → first + many < 2 ^ 64 → AllByRecursion (λ n. n < 2 ^ 64) (range_with_len first many)
all_short first zero h = tt
all_short first (suc many) h = (omega (arith, h), all_short (first + 1) many (omega (arith, h)))

set_same : (x y : Nodes) → AllBelow most_nodes x → AllBelow most_nodes y → set_text x ≡ set_text y → x ≡ y
unfolding set_text
set_same x y few less e = same_nodes x y (λ i. elim (cases_lt i most_nodes) [
  | inl near ↦
      let here : Among (λ n. n ≡ i) node_numbers = among_numbers (λ n. n ≡ i) 0 most_nodes i (omega arith) (omega (arith, near)) refl in
      tests_same (has x i) (has y i) (stands_in (has x) (has y) node_numbers same i here)
      (stands_in (has y) (has x) node_numbers (sym same) i here)
  | inr far ↦
      false_from_ne_true (has x i) (λ h. let below = few i h in omega (arith, below, far))
      ∙ sym (false_from_ne_true (has y i) (λ h. let below = less i h in omega (arith, below, far)))
])
  where
    short : (nodes : Nodes) → AllByRecursion (λ n. n < 2 ^ 64) (filter (has nodes) node_numbers)
    short nodes = Each-filter (λ n. n < 2 ^ 64) (has nodes) node_numbers (all_short 0 most_nodes (omega arith))

    same : filter (has x) node_numbers ≡ filter (has y) node_numbers
    same = numbers_same (filter (has x) node_numbers) (filter (has y) node_numbers) (short x) (short y) e

-- ---- services

other_start : (x y : List ℕ) (a b : ℕ) → slice_index x 0 ≡ a → slice_index y 0 ≡ b → a ≢ b → x ≡ y → ⊥
other_start x y a b xa yb other e = other (sym xa ∙ ap (λ l. slice_index l 0) e ∙ yb)

service_same : (a b : Service) → service_name a ≡ service_name b → a ≡ b
unfolding service_name
service_same service.Ed service.Ed e = refl
service_same service.Ed service.Rel e = absurd (other_start (codes "ed") (codes "rel") 101 114 refl refl (omega arith) e)
service_same service.Ed service.Tot e = absurd (other_start (codes "ed") (codes "tot") 101 116 refl refl (omega arith) e)
service_same service.Rel service.Ed e = absurd (other_start (codes "rel") (codes "ed") 114 101 refl refl (omega arith) e)
service_same service.Rel service.Rel e = refl
service_same service.Rel service.Tot e = absurd (other_start (codes "rel") (codes "tot") 114 116 refl refl (omega arith) e)
service_same service.Tot service.Ed e = absurd (other_start (codes "tot") (codes "ed") 116 101 refl refl (omega arith) e)
service_same service.Tot service.Rel e = absurd (other_start (codes "tot") (codes "rel") 116 114 refl refl (omega arith) e)
service_same service.Tot service.Tot e = refl

service_lacks : (by : Service) → Lacks 32 (service_name by)
unfolding service_name
service_lacks service.Ed = refl
service_lacks service.Rel = refl
service_lacks service.Tot = refl

-- ---- entries

abbrev at : ℕ → List (List ℕ) → List ℕ
at place fields = slice_index_or fields place []

abbrev delivery_fields : ℕ → Service → MsgKey → List ℕ → List (List ℕ)
delivery_fields slot by msg payload = decimal slot ∷ service_name by ∷ decimal msg.origin ∷ decimal msg.seq ∷ payload_text payload ∷ []

delivery_lacks : (slot : ℕ) (by : Service) (msg : MsgKey) (payload : List ℕ)
    → AllByRecursion (Lacks 32) (codes "deliver" ∷ delivery_fields slot by msg payload)
delivery_lacks slot by msg payload = (
  refl,
  (
    no_space slot,
    (
      service_lacks by,
      (no_space msg.origin, (no_space msg.seq, (payload_lacks 32 (omega arith) refl refl payload, tt))),
    ),
  ),
)

deliveries_same : (slot : ℕ) (by : Service) (msg : MsgKey) (payload : List ℕ) (later : ℕ) (with : Service) (key : MsgKey) (bytes : List ℕ)
    → IsWritable (Deliver slot by msg payload) → IsWritable (Deliver later with key bytes)
    → line_of (codes "deliver" ∷ delivery_fields slot by msg payload) ≡ line_of (codes "deliver" ∷ delivery_fields later with key bytes)
    → Deliver slot by msg payload ≡ Deliver later with key bytes
deliveries_same slot by msg payload later with key bytes a b e =
    let fields = line_fields (codes "deliver") (codes "deliver") (delivery_fields slot by msg payload)
    (delivery_fields later with key bytes)
    (delivery_lacks slot by msg payload) (delivery_lacks later with key bytes) e in
    let slots : slot ≡ later = decimal_injective slot later a.0 b.0 (ap (at 1) fields) in
    let services : by ≡ with = service_same by with (ap (at 2) fields) in
    let origins : msg.origin ≡ key.origin = decimal_injective msg.origin key.origin a.1 b.1 (ap (at 3) fields) in
    let numbers : msg.seq ≡ key.seq = decimal_injective msg.seq key.seq a.2 b.2 (ap (at 4) fields) in
    let keys : msg ≡ key = λ i. record { origin = origins i; seq = numbers i } in
    let payloads : payload ≡ bytes = payload_same payload bytes a.3 b.3 (ap (at 5) fields) in
    λ i. Deliver (slots i) (services i) (keys i) (payloads i)

failures_same : (slot node cycle later other number : ℕ) → IsWritable (Failed slot node cycle) → IsWritable (Failed later other number)
    → line_of (codes "failed" ∷ decimal slot ∷ decimal node ∷ decimal cycle ∷ []) ≡ line_of
    (codes "failed" ∷ decimal later ∷ decimal other ∷ decimal number ∷ [])
    → Failed slot node cycle ≡ Failed later other number
failures_same slot node cycle later other number a b e =
    let fields = line_fields (codes "failed") (codes "failed") (decimal slot ∷ decimal node ∷ decimal cycle ∷ [])
    (decimal later ∷ decimal other ∷ decimal number ∷ [])
    (refl, (no_space slot, (no_space node, (no_space cycle, tt)))) (refl, (no_space later, (no_space other, (no_space number, tt)))) e in
    let slots : slot ≡ later = decimal_injective slot later a.0 b.0 (ap (at 1) fields) in
    let nodes : node ≡ other = decimal_injective node other a.1 b.1 (ap (at 2) fields) in
    let cycles : cycle ≡ number = decimal_injective cycle number a.2 b.2 (ap (at 3) fields) in
    λ i. Failed (slots i) (nodes i) (cycles i)

views_same : (slot number : ℕ) (members : Nodes) (later next : ℕ) (others : Nodes) → IsWritable (View slot number members)
    → IsWritable (View later next others)
    → line_of (codes "view" ∷ decimal slot ∷ decimal number ∷ set_text members ∷ []) ≡ line_of
    (codes "view" ∷ decimal later ∷ decimal next ∷ set_text others ∷ [])
    → View slot number members ≡ View later next others
views_same slot number members later next others a b e =
    let fields = line_fields (codes "view") (codes "view") (decimal slot ∷ decimal number ∷ set_text members ∷ [])
    (decimal later ∷ decimal next ∷ set_text others ∷ [])
    (refl, (no_space slot, (no_space number, (set_lacks 32 (omega arith) members, tt))))
    (refl, (no_space later, (no_space next, (set_lacks 32 (omega arith) others, tt)))) e in
    let slots : slot ≡ later = decimal_injective slot later a.0 b.0 (ap (at 1) fields) in
    let numbers : number ≡ next = decimal_injective number next a.1 b.1 (ap (at 2) fields) in
    let sets : members ≡ others = set_same members others a.2 b.2 (ap (at 3) fields) in
    λ i. View (slots i) (numbers i) (sets i)

abbrev first_of_line : LogEntry → ℕ
first_of_line (Deliver slot by msg payload) = 100
first_of_line (Failed slot node cycle) = 102
first_of_line (View slot number members) = 118

starts : (entry : LogEntry) → slice_index (entry_line entry) 0 ≡ first_of_line entry
unfolding entry_line line_of
starts (Deliver slot by msg payload) = refl
starts (Failed slot node cycle) = refl
starts (View slot number members) = refl

entry_same : (x y : LogEntry) → IsWritable x → IsWritable y → entry_line x ≡ entry_line y → x ≡ y
unfolding entry_line
entry_same x y a b e = by_kind x y a b e (sym (starts x) ∙ ap (λ l. slice_index l 0) e ∙ starts y)
  where
    by_kind : (x y : LogEntry) → IsWritable x → IsWritable y → entry_line x ≡ entry_line y → first_of_line x ≡ first_of_line y → x ≡ y
    by_kind (Deliver slot by msg payload)
        (Deliver later with key bytes) a b e f = deliveries_same slot by msg payload later with key bytes a b e
    by_kind (Deliver slot by msg payload) (Failed later other number) a b e f = absurd (omega (arith, f))
    by_kind (Deliver slot by msg payload) (View later next others) a b e f = absurd (omega (arith, f))
    by_kind (Failed slot node cycle) (Deliver later with key bytes) a b e f = absurd (omega (arith, f))
    by_kind (Failed slot node cycle) (Failed later other number) a b e f = failures_same slot node cycle later other number a b e
    by_kind (Failed slot node cycle) (View later next others) a b e f = absurd (omega (arith, f))
    by_kind (View slot n members) (Deliver later with key bytes) a b e f = absurd (omega (arith, f))
    by_kind (View slot n members) (Failed later other number) a b e f = absurd (omega (arith, f))
    by_kind (View slot n members) (View later next others) a b e f = views_same slot n members later next others a b e

pub logs_same : (xs ys : List LogEntry) → AllByRecursion IsWritable xs → AllByRecursion IsWritable ys
    → map entry_line xs ≡ map entry_line ys → xs ≡ ys
logs_same = lists_same entry_line IsWritable entry_same
