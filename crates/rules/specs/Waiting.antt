-- The waiting times: the earliest edge that the spacing rules 4 to 21, 29 and 30 allow a command, by looking back over the whole recording.
-- Assumes nothing.
use Rattle.std.specs.Prelude.{ℕ, zero, suc, ◌+◌, max, Bool, cond, ◌&&◌, ◌||◌, List, [], ◌∷◌, ◌++◌}
use Rattle.records.specs.declared.Record.{Record}
use Rattle.records.specs.declared.Command.{Command}
use Rattle.records.specs.declared.Command.TheVariants.{Mrs, Ref, Pre, Act, Wr, Rd, Zq, Nop, Des, Sre, Srx, Low, Bad, Pde, Pdx}
use Rattle.records.specs.Command.{a10}
use Rattle.answers.specs.declared.Break.{Break}
use Rattle.chip.specs.declared.Chip.{Chip}
use Rattle.rules.specs.Past.{Past, edge, command, is, bank_of, on, back}
use Rattle.rules.specs.Registers.{dll_reset}
use Rattle.rules.specs.Banks.{act_on, closes, shuts, start}
use Rattle.rules.specs.Down.{slow_exit}
use Rattle.rules.specs.Search.{asking}
use Rattle.rules.specs.Rules.{Row, r4, r6, r7, r9, r10, r11, r12r, r12w, r13, r14, r15, r16, r17, r18, r19, r20, r21, r29, r30, spacing, spaced, rule5, rule8}

-- What one rule asks of a later command: the events that ask, and the edge until which each of them does.
pub record Ask : Type 0 where
  pub who : Past → Bool
  pub until : Past → ℕ

-- the latest edge that an event of the past asks for; 0 if none asks
abbrev pub furthest : Ask → Past → ℕ
furthest a [] = 0
furthest a (r ∷ p) = max (asking a.who a.until (r ∷ p)) (furthest a p)

-- the latest that one of several rules asks for: of all events, and of one
abbrev pub of_all : List Ask → Past → ℕ
of_all [] p = 0
of_all (a ∷ rest) p = max (furthest a p) (of_all rest p)

abbrev pub of_one : List Ask → Past → ℕ
of_one [] s = 0
of_one (a ∷ rest) s = max (asking a.who a.until s) (of_one rest s)

-- the greatest of the banks below n
unfoldable pub of_banks : (ℕ → ℕ) → ℕ → ℕ
of_banks f zero = 0
of_banks f (suc n) = max (of_banks f n) (f n)

module _ (C : Chip) where
  -- a row of the table: from the event, the clocks that the row needs
  abbrev pub by : Row → (who : Past → Bool) → Ask
  by x who = record { who = who; until = λ s. edge s + (spacing C x).need s }

  -- rule 5: from the precharge start
  abbrev pub by_start : (who : Past → Bool) → Ask
  by_start who = record { who = who; until = λ s. start C s + C.trp }

  -- rule 8: from the ACT that is fourth back when the next one comes
  abbrev pub after_fourth : Past → ℕ
  after_fourth [] = 0
  after_fourth (r ∷ p) = edge (r ∷ p) + C.tfaw

  abbrev pub by_fourth : Ask
  by_fourth = record { who = is Act; until = λ s. after_fourth (back (is Act) 3 s) }

  -- what is asked of a command on a bank, by the rules' numbers
  unfoldable pub asks : Command → (bank : ℕ) → List Ask
  asks Act b =
      by_start (closes b) ∷ by r6 (act_on b) ∷ by r7 (is Act) ∷ by_fourth
      ∷ by r15 (is Ref) ∷ by r17 (is Mrs) ∷ by r18 (is Zq) ∷ by r21 (is Srx) ∷ by r29 (is Pdx) ∷ []
  asks Rd b =
      by r4 (act_on b) ∷ by r12r (is Rd) ∷ by r14 (is Wr)
      ∷ by r15 (is Ref) ∷ by r17 (is Mrs) ∷ by r18 (is Zq) ∷ by r20 (λ s. dll_reset s || is Srx s) ∷ by r21 (is Srx) ∷ by r29 (is Pdx)
      ∷ by r30 (slow_exit C) ∷ []
  asks Wr b =
      by r4 (act_on b) ∷ by r12w (is Wr) ∷ by r13 (is Rd)
      ∷ by r15 (is Ref) ∷ by r17 (is Mrs) ∷ by r18 (is Zq) ∷ by r21 (is Srx) ∷ by r29 (is Pdx) ∷ []
  asks Pre b =
      by r9 (act_on b) ∷ by r10 (λ s. is Rd s && on b s) ∷ by r11 (λ s. is Wr s && on b s)
      ∷ by r15 (is Ref) ∷ by r17 (is Mrs) ∷ by r18 (is Zq) ∷ by r21 (is Srx) ∷ by r29 (is Pdx) ∷ []
  asks Ref b = by_start shuts ∷ by r15 (is Ref) ∷ by r17 (is Mrs) ∷ by r18 (is Zq) ∷ by r21 (is Srx) ∷ by r29 (is Pdx) ∷ []
  asks Zq b = by_start shuts ∷ by r15 (is Ref) ∷ by r17 (is Mrs) ∷ by r18 (is Zq) ∷ by r21 (is Srx) ∷ by r29 (is Pdx) ∷ []
  asks Mrs b = by_start shuts ∷ by r15 (is Ref) ∷ by r16 (is Mrs) ∷ by r18 (is Zq) ∷ by r19 (is Rd) ∷ by r21 (is Srx) ∷ by r29 (is Pdx) ∷ []
  asks Sre b = by_start shuts ∷ by r15 (is Ref) ∷ by r17 (is Mrs) ∷ by r18 (is Zq) ∷ by r19 (is Rd) ∷ by r21 (is Srx) ∷ by r29 (is Pdx) ∷ []
  asks Nop b = []
  asks Des b = []
  asks Srx b = []
  asks Low b = []
  asks Bad b = []
  asks Pde b = []
  asks Pdx b = []

  -- the edge that the command on the bank has to wait for, after the past p
  unfoldable pub wait : Command → (bank : ℕ) → Past → ℕ
  wait c b p = of_all (asks c b) p

  -- what the latest event by itself asks of the command on the bank
  unfoldable pub asked : Command → (bank : ℕ) → Past → ℕ
  asked c b s = of_one (asks c b) s

  -- the edge that the record r after p has to wait for; a PRE of all banks waits for each of them
  unfoldable pub wait_at : Record → Past → ℕ
  wait_at r p =
      cond (is Pre (r ∷ p) && a10 r) (of_banks (λ b. wait Pre b p) 8) (wait (command (r ∷ p)) (bank_of (r ∷ p)) p)

  -- the rules 4 to 21, by number; with 29 and 30 they are those of the waiting times
  abbrev pub spacing_rules : List (Record → Past → Break)
  spacing_rules =
      spaced C r4 ∷ rule5 C ∷ spaced C r6 ∷ spaced C r7 ∷ rule8 C ∷ spaced C r9 ∷ spaced C r10 ∷ spaced C r11 ∷ spaced C r12r ∷ spaced C r12w
      ∷ spaced C r13 ∷ spaced C r14 ∷ spaced C r15 ∷ spaced C r16 ∷ spaced C r17 ∷ spaced C r18 ∷ spaced C r19 ∷ spaced C r20 ∷ spaced C r21 ∷ []

  abbrev pub waiting_rules : List (Record → Past → Break)
  waiting_rules = spacing_rules ++ (spaced C r29 ∷ spaced C r30 ∷ [])
