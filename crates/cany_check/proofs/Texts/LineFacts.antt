-- Lines that are put together in parts.
use Rattle.std.proofs.Common.{◌≡◌, ℕ, ◌<◌, arith, get_or, length, List, Option, Some, None, refl, [], ◌∷◌, ◌++◌, append_assoc, sym, ◌∙◌, ap}
use Rattle.std.specs.Prelude.{codes, decimal, option_map}
use Rattle.cany_base.specs.Params.{Parameters}
use Rattle.cany_text.specs.ReportLines.{line_of}
use Rattle.cany_text.specs.TextNames.{service_name}
use Rattle.cany_log.specs.Fields.{number_if_any, texts_of}
use Rattle.cany_check.specs.declared.text.fate_fields.FateFields.{FateFields}
use Rattle.cany_check.specs.declared.deciders.findings.Told.{Told}
use Rattle.cany_check.specs.declared.account.record.MessageRecord.{MessageRecord}
use Rattle.cany_check.specs.declared.account.record.SignRecord.{SignRecord}
use Rattle.cany_check.specs.declared.account.record.FirstAndLast.{FirstAndLast}
use Rattle.cany_check.specs.Accounts.Account.{AccountParts}
use Rattle.cany_check.specs.Texts.CheckLines.{message_fate_fields, message_line, sign_fate_fields, sign_line, slots_if_any, slots_or_dash}
use Rattle.cany_check.specs.Texts.FateParts.{fate_texts, first_or_dash, last_if_any}
use Rattle.cany_check.specs.Deciding.Fates.{message_fates, message_told, sign_fates, sign_told}
use Rattle.cany_check.proofs.Texts.CountFacts.{mapped_at}

-- the slots of a frame, and of entries
slots_put : (word : List ℕ) (carried slots : Option FirstAndLast) (first last until : List (List ℕ)) (since : Option ℕ) → first ≡ first_or_dash carried → last ≡ last_if_any carried
    → since ≡ option_map (λ s. s.first) slots → until ≡ last_if_any slots
    → codes "carried" ∷ (first ++ (last ++ (number_if_any word since ++ (until ++ [])))) ≡ slots_or_dash (codes "carried") carried ++ slots_if_any word slots
slots_put word carried slots first last until since a b c d = rw (a, b, c, d) (by_cases carried slots)
  where
    by_cases : (carried slots : Option FirstAndLast) → codes "carried" ∷ (first_or_dash carried ++ (last_if_any carried ++ (number_if_any word (option_map (λ s. s.first) slots) ++ (last_if_any slots ++ []))))
        ≡ slots_or_dash (codes "carried") carried ++ slots_if_any word slots
    by_cases None None = refl
    by_cases None (Some s) = refl
    by_cases (Some c) None = refl
    by_cases (Some c) (Some s) = refl

five_and : (a b c d e rest : List (List ℕ)) → a ++ (b ++ (c ++ (d ++ (e ++ rest)))) ≡ (a ++ (b ++ (c ++ (d ++ e)))) ++ rest
five_and a b c d e rest = simp append_assoc

-- a fate, and the slots after it
fate_put : (word : List ℕ) (fate : FateFields) (fields : List (List ℕ)) (carried slots : Option FirstAndLast) (first last until : List (List ℕ)) (since : Option ℕ)
    → fate_texts fate ≡ fields → first ≡ first_or_dash carried → last ≡ last_if_any carried → since ≡ option_map (λ s. s.first) slots → until ≡ last_if_any slots
    → texts_of fate.first ++ (texts_of fate.second ++ (texts_of fate.third ++ (texts_of fate.fourth ++ (texts_of fate.fifth
    ++ codes "carried" ∷ (first ++ (last ++ (number_if_any word since ++ (until ++ []))))))))
    ≡ (fields ++ slots_or_dash (codes "carried") carried) ++ slots_if_any word slots
fate_put word fate fields carried slots first last until since is a b c d =
    five_and (texts_of fate.first) (texts_of fate.second) (texts_of fate.third) (texts_of fate.fourth) (texts_of fate.fifth) _
    ∙ ap (λ r. fate_texts fate ++ r) (slots_put word carried slots first last until since a b c d)
    ∙ ap (λ r. r ++ (slots_or_dash (codes "carried") carried ++ slots_if_any word slots)) is
    ∙ sym (append_assoc fields (slots_or_dash (codes "carried") carried) (slots_if_any word slots))

-- what the code puts after the slot of a message, or after the cycle of a sign
abbrev pub fate_and_slots : List ℕ → FateFields → (first last until : List (List ℕ)) → Option ℕ → List (List ℕ)
fate_and_slots word fate first last until since =
    texts_of fate.first ++ (texts_of fate.second ++ (texts_of fate.third ++ (texts_of fate.fourth ++ (texts_of fate.fifth
    ++ codes "carried" ∷ (first ++ (last ++ (number_if_any word since ++ (until ++ []))))))))

pub message_line-put : (p : Parameters) (m : MessageRecord) (told : Told) (fate : FateFields) (name : List ℕ) (origin seq : ℕ) (first last until : List (List ℕ)) (since : Option ℕ)
    → name ≡ service_name m.service → origin ≡ m.key.origin → seq ≡ m.key.seq → fate_texts fate ≡ message_fate_fields p m told told.fate
    → first ≡ first_or_dash m.carried → last ≡ last_if_any m.carried → since ≡ option_map (λ s. s.first) told.slots → until ≡ last_if_any told.slots
    → message_line p m told ≡ line_of (codes "message" ∷ name ∷ decimal origin ∷ decimal seq ∷ codes "slot" ∷ decimal m.slot ∷ fate_and_slots (codes "delivered") fate first last until since)
unfolding message_line
message_line-put p m told fate name origin seq first last until since name_is origin_is seq_is is a b c d =
    sym (ap (λ r. line_of (codes "message" ∷ name ∷ decimal origin ∷ decimal seq ∷ codes "slot" ∷ decimal m.slot ∷ r))
    (fate_put (codes "delivered") fate _ m.carried told.slots first last until since is a b c d)
    ∙ ap (λ n. line_of (codes "message" ∷ n ∷ decimal origin ∷ decimal seq ∷ codes "slot" ∷ decimal m.slot ∷ (message_fate_fields p m told told.fate ++ slots_or_dash (codes "carried") m.carried) ++ slots_if_any (codes "delivered") told.slots)) name_is
    ∙ ap (λ n. line_of (codes "message" ∷ service_name m.service ∷ decimal n ∷ decimal seq ∷ codes "slot" ∷ decimal m.slot ∷ (message_fate_fields p m told told.fate ++ slots_or_dash (codes "carried") m.carried) ++ slots_if_any (codes "delivered") told.slots)) origin_is
    ∙ ap (λ n. line_of (codes "message" ∷ service_name m.service ∷ decimal m.key.origin ∷ decimal n ∷ codes "slot" ∷ decimal m.slot ∷ (message_fate_fields p m told told.fate ++ slots_or_dash (codes "carried") m.carried) ++ slots_if_any (codes "delivered") told.slots)) seq_is)

pub sign_line-put : (sign : SignRecord) (told : Told) (fate : FateFields) (node cycle : ℕ) (first last until : List (List ℕ)) (since : Option ℕ)
    → node ≡ sign.node → cycle ≡ sign.cycle → fate_texts fate ≡ sign_fate_fields sign told told.fate
    → first ≡ first_or_dash sign.carried → last ≡ last_if_any sign.carried → since ≡ option_map (λ s. s.first) told.slots → until ≡ last_if_any told.slots
    → sign_line sign told ≡ line_of (codes "sign" ∷ decimal node ∷ decimal cycle ∷ fate_and_slots (codes "known") fate first last until since)
unfolding sign_line
sign_line-put sign told fate node cycle first last until since node_is cycle_is is a b c d =
    sym (ap (λ r. line_of (codes "sign" ∷ decimal node ∷ decimal cycle ∷ r)) (fate_put (codes "known") fate _ sign.carried told.slots first last until since is a b c d)
    ∙ ap (λ n. line_of (codes "sign" ∷ decimal n ∷ decimal cycle ∷ (sign_fate_fields sign told told.fate ++ slots_or_dash (codes "carried") sign.carried) ++ slots_if_any (codes "known") told.slots)) node_is
    ∙ ap (λ n. line_of (codes "sign" ∷ decimal sign.node ∷ decimal n ∷ (sign_fate_fields sign told told.fate ++ slots_or_dash (codes "carried") sign.carried) ++ slots_if_any (codes "known") told.slots)) cycle_is)

-- ---- one line for each of them

abbrev pub message_text : AccountParts → MessageRecord → List ℕ
message_text a m = message_line a.params m (message_told a m)

abbrev pub sign_text : AccountParts → SignRecord → List ℕ
sign_text a sign = sign_line sign (sign_told a sign)

-- the line of a message that was written is its own, by what was told of all messages
pub message_told-at : (a : AccountParts) (told : List Told) (p : Parameters) (items : List MessageRecord) (i : ℕ) (m : MessageRecord) (t : Told) → told ≡ message_fates a
    → p ≡ a.params → items ≡ a.messages → i < length items → m ≡ get_or items i m → t ≡ get_or told i t → message_line p m t ≡ message_text a m
message_told-at a told p items i m t all params messages inside m_is t_is =
    let is : t ≡ message_told a m = mapped_at (message_told a) a.messages told i m t all (omega (arith, inside, ap length messages)) (m_is ∙ ap (λ l. get_or l i m) messages) t_is in
    ap (λ p. message_line p m t) params ∙ ap (message_line a.params m) is

pub sign_told-at : (a : AccountParts) (told : List Told) (items : List SignRecord) (i : ℕ) (sign : SignRecord) (t : Told) → told ≡ sign_fates a
    → items ≡ a.signs → i < length items → sign ≡ get_or items i sign → t ≡ get_or told i t → sign_line sign t ≡ sign_text a sign
sign_told-at a told items i sign t all signs inside sign_is t_is =
    ap (sign_line sign)
    (mapped_at (sign_told a) a.signs told i sign t all (omega (arith, inside, ap length signs)) (sign_is ∙ ap (λ l. get_or l i sign) signs) t_is)
