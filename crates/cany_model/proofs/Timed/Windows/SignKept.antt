-- A node's own life signs, by ages: when those were asked for that wait, or were sent and are not
-- read, and how far the others lie back. A sign is asked for only where the last life lies a life
-- interval back. While it waits, each slot carries a frame that wins arbitration, so it does not
-- wait so long that the next would be due.
use Rattle.std.proofs.Common.{◌≡◌, ℕ, zero, suc, ◌+◌, ◌<◌, ◌≤◌, ◌⊎◌, inl, inr, true, List, ◌∷◌, length, arith}
use Rattle.std.proofs.lemmas.Bool.{cases_lt, cond-true}
use Rattle.cany_base.specs.declared.slot_note.SlotNote.{SlotNote}
use Rattle.cany_base.specs.Params.{MeetsFormulas, Parameters}
use Rattle.cany_model.specs.Bus.History.{given}
use Rattle.cany_model.specs.Rules.Life.{is_own_sign}
use Rattle.cany_model.proofs.Among.{one_if}
use Rattle.cany_model.proofs.Timed.Windows.SignTops.{FewTops, Top, no_crowd}
use Rattle.cany_model.proofs.Timed.Windows.OwnLifeSigns.{SendsSign}
use Rattle.cany_model.proofs.Timed.Windows.TopFrames.{is_top_slot}

-- A sign was asked for in the turn of this age, where so many slots have run: the last life lies a
-- life interval back from it, or has come since.
abbrev pub Due : (life last ran age : ℕ) → Type 0
Due life last ran age = (last + life + suc age ≡ ran) ⊎ (ran < last + suc age)

-- All that follows is of the whole trace, of the trace as the node's incarnation sees it, of the
-- number of slots that it has not read, and of the slot of its own last life.

-- the sign that waits
pub record WaitsSince (p : Parameters) (i : ℕ) (trace own : List SlotNote) (unread last : ℕ) : Type 0 where
  pub age : ℕ
  pub read : unread ≤ age
  pub due : Due p.life last (length trace) age
  pub tops : (a : ℕ) → a + p.lag < age → Top trace a
  pub far : (a : ℕ) → SendsSign i own a → age + p.life ≤ a

-- one that was sent at this age and is not read
pub record SentSince (p : Parameters) (i : ℕ) (trace own : List SlotNote) (unread last sent : ℕ) : Type 0 where
  pub age : ℕ
  pub after : sent < age
  pub read : unread ≤ age
  pub due : Due p.life last (length trace) age
  pub tops : (a : ℕ) → sent ≤ a → a + p.lag < age → Top trace a

-- where so many signs wait
pub record NodeSigns (p : Parameters) (i : ℕ) (trace own : List SlotNote) (unread last waiting : ℕ) : Type 0 where
  pub lag : unread ≤ p.lag + 1
  pub one : waiting ≤ 1
  pub waits : 0 < waiting → WaitsSince p i trace own unread last
  pub sent : (a : ℕ) → a < unread → SendsSign i own a → SentSince p i trace own unread last a

-- ---- a slot

due_next : (life last ran age : ℕ) → Due life last ran age → Due life last (suc ran) (suc age)
due_next life last ran age (inl e) = inl (omega (arith, e))
due_next life last ran age (inr l) = inr (omega (arith, l))

tops_next : (note : SlotNote) (trace : List SlotNote) (lag age : ℕ) → is_top_slot note ≡ true → ((a : ℕ) → a + lag < age → Top trace a)
    → (a : ℕ) → a + lag < suc age → Top (note ∷ trace) a
tops_next note trace lag age now h zero l = now
tops_next note trace lag age now h (suc a) l = h a (omega (arith, l))

tops_from : (note : SlotNote) (trace : List SlotNote) (lag age sent : ℕ) → ((a : ℕ) → sent ≤ a → a + lag < age → Top trace a)
    → (a : ℕ) → suc sent ≤ a → a + lag < suc age → Top (note ∷ trace) a
tops_from note trace lag age sent h zero from l = absurd (omega (arith, from))
tops_from note trace lag age sent h (suc a) from l = h a (omega (arith, from)) (omega (arith, l))

far_next : (i : ℕ) (note : SlotNote) (own : List SlotNote) (life age : ℕ) → (is_own_sign i (given i note) ≡ true → ⊥)
    → ((a : ℕ) → SendsSign i own a → age + life ≤ a) → (a : ℕ) → SendsSign i (note ∷ own) a → suc age + life ≤ a
far_next i note own life age other h zero s = absurd (other s)
far_next i note own life age other h (suc a) s = omega (arith, h a s)

-- the note of a slot, and what the node's incarnation sees of it
module _ (p : Parameters) (i : ℕ) (note shown : SlotNote) (trace own : List SlotNote) (unread last before after : ℕ)
    (top : 0 < before → is_top_slot note ≡ true) (sends : one_if (is_own_sign i (given i shown)) + after ≤ before)
    (lag : unread ≤ p.lag) (h : NodeSigns p i trace own unread last before) where
  sent_now : is_own_sign i (given i shown) ≡ true → suc after ≤ before
  sent_now s =
      let one : one_if (is_own_sign i (given i shown)) ≡ 1 = cond-true {A = ℕ} (is_own_sign i (given i shown)) 1 0 s in
      omega (arith, one, sends)

  pub slot_signs : NodeSigns p i (note ∷ trace) (shown ∷ own) (suc unread) last after
  slot_signs = record { lag = omega (arith, lag); one = let one = h.one in omega (arith, one, sends); waits = waits; sent = sent }
    where
      waits : 0 < after → WaitsSince p i (note ∷ trace) (shown ∷ own) (suc unread) last
      waits some =
          let still : 0 < before = omega (arith, some, sends) in
          let w = h.waits still in
          record {
            age = suc w.age;
            read = let read = w.read in omega (arith, read);
            due = due_next p.life last (length trace) w.age w.due;
            tops = tops_next note trace p.lag w.age (top still) w.tops;
            far = far_next i shown own p.life w.age (λ s. let one = h.one in let now = sent_now s in omega (arith, one, now, some)) w.far;
          }

      sent : (a : ℕ) → a < suc unread → SendsSign i (shown ∷ own) a → SentSince p i (note ∷ trace) (shown ∷ own) (suc unread) last a
      sent zero l s =
          let still : 0 < before = let now = sent_now s in omega (arith, now) in
          let w = h.waits still in
          record {
            age = suc w.age;
            after = omega arith;
            read = let read = w.read in omega (arith, read);
            due = due_next p.life last (length trace) w.age w.due;
            tops = λ a from l. tops_next note trace p.lag w.age (top still) w.tops a l;
          }
      sent (suc a) l s =
          let r = h.sent a (omega (arith, l)) s in
          record {
            age = suc r.age;
            after = let after = r.after in omega (arith, after);
            read = let read = r.read in omega (arith, read);
            due = due_next p.life last (length trace) r.age r.due;
            tops = tops_from note trace p.lag r.age a r.tops;
          }

-- ---- a turn

-- The slot of the last life stays, or is that of the turn. No sign is asked for, or one is, where
-- the last life lies a life interval back from the turn. And the last life is no older than any
-- sign that is read.
module _ (p : Parameters) (formulas : MeetsFormulas p) (i : ℕ) (trace own : List SlotNote) (unread last now before after : ℕ)
    (few : FewTops p trace) (moved : (now ≡ last) ⊎ (now + suc unread ≡ length trace))
    (asks : (after ≤ before) ⊎ ((after ≤ suc before) × (now + p.life + suc unread ≡ length trace)))
    (since : (a : ℕ) → unread ≤ a → SendsSign i own a → length trace ≤ now + suc a)
    (h : NodeSigns p i trace own (suc unread) last before) where
  due_on : (age : ℕ) → suc unread ≤ age → Due p.life last (length trace) age → Due p.life now (length trace) age
  due_on age read due = elim moved [
    | inr set ↦ inr (omega (arith, set, read))
    | inl same ↦ elim due [ inl e ↦ inl (omega (arith, e, same)) | inr l ↦ inr (omega (arith, l, same)) ]
  ]

  -- no older ask is open where one is due
  stale : (first age : ℕ) → first ≤ unread → suc unread ≤ age → Due p.life now (length trace) age → now + p.life + suc unread ≡ length trace
      → ((a : ℕ) → first ≤ a → a + p.lag < age → Top trace a) → ⊥
  stale first age near read (inl e) due tops = omega (arith, read, e, due)
  stale first age near read (inr l) due tops =
      let life = formulas.life in
      no_crowd p trace few first (λ a low high. tops a low (omega (arith, high, near, l, due, life)))

  pub turn_signs : NodeSigns p i trace own unread now after
  turn_signs = elim asks [
    | inl none ↦ record {
      lag = lag;
      one = let one = h.one in omega (arith, one, none);
      waits = λ some. still (omega (arith, some, none));
      sent = sent;
    }
    | inr (more, due) ↦
        let nothing : before ≡ 0 = elim (cases_lt 0 before) [
          | inl some ↦
              let w = h.waits some in
              absurd (stale 0 w.age (omega arith) w.read (due_on w.age w.read w.due) due (λ a low l. w.tops a l))
          | inr none ↦ omega (arith, none)
        ] in
        record { lag = lag; one = omega (arith, more, nothing); waits = λ some. fresh due; sent = sent }
  ]
    where
      lag : unread ≤ p.lag + 1
      lag = let lag = h.lag in omega (arith, lag)

      sent : (a : ℕ) → a < unread → SendsSign i own a → SentSince p i trace own unread now a
      sent a l s =
          let r = h.sent a (omega (arith, l)) s in
          record { age = r.age; after = r.after; read = let read = r.read in omega (arith, read); due = due_on r.age r.read r.due; tops = r.tops }

      still : 0 < before → WaitsSince p i trace own unread now
      still some =
          let w = h.waits some in
          record { age = w.age; read = let read = w.read in omega (arith, read); due = due_on w.age w.read w.due; tops = w.tops; far = w.far }

      fresh : now + p.life + suc unread ≡ length trace → WaitsSince p i trace own unread now
      fresh due = record {
        age = unread;
        read = omega arith;
        due = inl due;
        tops = λ a l. absurd (let lag = h.lag in omega (arith, l, lag));
        far = λ a s. elim (cases_lt a unread) [
          | inl newer ↦
              let r = h.sent a (omega (arith, newer)) s in
              absurd (stale a r.age (omega (arith, newer)) r.read (due_on r.age r.read r.due) due r.tops)
          | inr older ↦ let z = since a older s in omega (arith, z, due)
        ];
      }
