-- Which message of a backlog is asked for next, from what it keeps of the last one.
use Rattle.std.specs.Prelude.{nat_lt, slice_get}
use Rattle.std.specs.List.{AllByRecursion}
use Rattle.std.proofs.Common.{◌≡◌, ℕ, zero, suc, ◌+◌, ◌-◌, ◌<◌, ◌≤◌, ◌&&◌, Bool, true, false, if◌then◌else◌, List, [], ◌∷◌, None, Some, length, slice_set, refl, ap, sym, subst, ◌∙◌, arith}
use Rattle.std.proofs.lemmas.Bool.{le-ltb, lt-ltb, ne_eqb}
use Rattle.cany_totcan.specs.declared.backlog.Given.{Given}
use Rattle.cany_totcan.specs.declared.backlog.OwnMessage.{OwnMessage}
use Rattle.cany_totcan.specs.Backlog.{BacklogParts, after_next, is_free, is_past, marked, next_given, own_at, with_asked}

-- each message that was given is among those whose fate the node keeps
pub given_within : (given : List Given) (numbers n : ℕ) (g : Given) → AllByRecursion (λ g. g.seq < numbers) given → slice_get given n ≡ Some g → g.seq < numbers
given_within [] numbers n g each is = absurd (cc)
given_within (h ∷ given) numbers zero g each is =
    let same : h ≡ g = cc in
    subst (λ (k : Given). k.seq < numbers) same each.0
given_within (h ∷ given) numbers (suc n) g each is = given_within given numbers n g each.1 is

kept_at : (own : List OwnMessage) (n : ℕ) (o : OwnMessage) → slice_get own n ≡ Some o → own_at own n ≡ o
kept_at [] n o is = absurd (cc)
kept_at (x ∷ own) zero o is =
    let same : x ≡ o = cc in
    same
kept_at (x ∷ own) (suc n) o is = kept_at own n o is

-- ---- whether another message may be asked for

-- where none was
pub free_first : (now spacing : ℕ) (v : BacklogParts) → v.asked ≡ 0 → is_free now spacing v ≡ true
free_first now spacing v none = rw none refl

-- where one was, by what was kept of it
pub free_last : (now spacing : ℕ) (v : BacklogParts) (g : Given) → 0 < v.asked → slice_get v.given (v.asked - 1) ≡ Some g
    → is_free now spacing v ≡ ((own_at v.own g.seq).sent && is_past now spacing (own_at v.own g.seq).place)
free_last now spacing v g some last = rw (ne_eqb v.asked 0 (λ none. omega (arith, none)), last) refl

pub free_kept : (now spacing : ℕ) (u v : BacklogParts) (g : Given) (n : ℕ) (o : OwnMessage) → u ≡ v → 0 < u.asked → slice_get u.given (u.asked - 1) ≡ Some g
    → n ≡ g.seq → slice_get u.own n ≡ Some o → is_free now spacing v ≡ (o.sent && is_past now spacing o.place)
free_kept now spacing u v g n o same some last at kept =
    ap (is_free now spacing) (sym same) ∙ free_last now spacing u g some last
    ∙ ap (λ (m : OwnMessage). m.sent && is_past now spacing m.place) (ap (own_at u.own) (sym at) ∙ kept_at u.own n o kept)

-- ---- which message is asked for

-- none, where all were
pub none_left : (now spacing : ℕ) (u v : BacklogParts) → u ≡ v → length u.given ≤ u.asked → next_given now spacing v ≡ None
none_left now spacing u v same all = ap (next_given now spacing) (sym same) ∙ rw (le-ltb u.asked (length u.given) all) refl

-- or where no other may be
pub none_free : (now spacing : ℕ) (v : BacklogParts) → is_free now spacing v ≡ false → next_given now spacing v ≡ None
none_free now spacing v waits = rw waits (go (nat_lt v.asked (length v.given)))
  where
    go : (b : Bool) → (if b && false then slice_get v.given v.asked else None) ≡ None
    go true = refl
    go false = refl

-- the first of the others
pub next_is : (now spacing : ℕ) (u v : BacklogParts) (g : Given) → u ≡ v → u.asked < length u.given → is_free now spacing v ≡ true → slice_get u.given u.asked ≡ Some g
    → next_given now spacing v ≡ Some g
next_is now spacing u v g same within free get =
    let free_now : is_free now spacing u ≡ true = ap (is_free now spacing) same ∙ free in
    ap (next_given now spacing) (sym same) ∙ rw (lt-ltb u.asked (length u.given) within, free_now, get) refl

-- which is marked then
pub after_is : (now spacing : ℕ) (u v : BacklogParts) (g : Given) (n : ℕ) (o : OwnMessage) (own : List OwnMessage) → u ≡ v → next_given now spacing v ≡ Some g
    → n ≡ g.seq → slice_get u.own n ≡ Some o → own ≡ slice_set u.own n (record o { asked = true })
    → record u { asked = u.asked + 1; own = own } ≡ after_next now spacing v
after_is now spacing u v g n o own same next at kept set =
    ap (λ own. record u { asked = u.asked + 1; own = own })
    (set ∙ ap (λ (m : OwnMessage). slice_set u.own n (record m { asked = true })) (sym (kept_at u.own n o kept)) ∙ ap (marked u.own) at)
    ∙ ap (λ (w : BacklogParts). with_asked w (Some g)) same
    ∙ ap (with_asked v) (sym next)
