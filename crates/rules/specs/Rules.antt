-- The rules that a record breaks: 1 to 23 of 01, "Commands and the 25 rules", and the partners below it; 26, 27, 29 and 30 of 02, Q-1.
-- Assumes nothing.
use Rattle.std.specs.Prelude.{ℕ, ◌+◌, ◌-◌, max, Bool, true, false, cond, not, ◌&&◌, ◌||◌, List, [], ◌∷◌}
use Rattle.records.specs.declared.Record.{Record}
use Rattle.records.specs.declared.Command.{Command}
use Rattle.records.specs.declared.Command.TheVariants.{Mrs, Ref, Pre, Act, Wr, Rd, Zq, Nop, Des, Sre, Srx, Low, Bad, Pde, Pdx}
use Rattle.records.specs.Command.{a10}
use Rattle.registers.specs.Allowed.{bad_bit, allowed}
use Rattle.chip.specs.declared.Chip.{Chip}
use Rattle.answers.specs.declared.Bank.{Bank}
use Rattle.answers.specs.declared.Break.{Break}
use Rattle.answers.specs.declared.Break.TheVariants.{Fine, Broken}
use Rattle.rules.specs.Past.{Past, edge, number, changes, command, is, any_command, column, bank_of, on, a10_of, latest, back, has, greatest}
use Rattle.rules.specs.Registers.{dll_reset, mr, al, cl, cwl, wr, rl, wl, h, b}
use Rattle.rules.specs.Banks.{closes, shuts, is_idle, is_open, not_closing, act_num, start, status}
use Rattle.rules.specs.Down.{slow_exit}
use Rattle.answers.specs.Answer.{or_else, lowest}
use Rattle.rules.specs.Search.{short, Spacing, least, row}

-- ── The words of rules 2 and 3 ──────────────────────────────────────────────────────────────

-- "ACT needs an idle bank; RD, WR an open, not closing one; REF, MRS, ZQ, SRE all idle; PRE no covered closing bank": what a bank must
-- be that the command speaks of
abbrev pub may : Command → Bank → Bool
may Act k = is_idle k
may Rd k = is_open k
may Wr k = is_open k
may Ref k = is_idle k
may Mrs k = is_idle k
may Zq k = is_idle k
may Sre k = is_idle k
may Pre k = not_closing k
may Nop k = true
may Des k = true
may Srx k = true
may Low k = true
may Bad k = true
may Pde k = true
may Pdx k = true

-- the command speaks of a bank: a is A10, o that the bank is the record's own
abbrev pub concerns : Command → (a o : Bool) → Bool
concerns Act a o = o
concerns Rd a o = o
concerns Wr a o = o
concerns Ref a o = true
concerns Mrs a o = true
concerns Zq a o = true
concerns Sre a o = true
concerns Pre a o = a || o
concerns Nop a o = false
concerns Des a o = false
concerns Srx a o = false
concerns Low a o = false
concerns Bad a o = false
concerns Pde a o = false
concerns Pdx a o = false

-- a bank in the way: its ACT is the partner, "none for RD or WR on an idle bank"
abbrev pub barred : Command → Bool → Bank → Break
barred c x k = cond x (cond (may c k) Fine (Broken 2 (act_num k) 0 0)) Fine

-- what rule 3 needs, and what is found where it is not so
abbrev pub demand : Bool → (found : ℕ) → Break
demand x f = cond x Fine (Broken 3 0 0 f)

-- ── The words of the spacings ───────────────────────────────────────────────────────────────

-- an earlier event of the kind k: on any bank, on the later's, on one that the later covers
abbrev pub any_bank : (k : Past → Bool) (later earlier : Past) → Bool
any_bank k l s = k s

abbrev pub same_bank : (k : Past → Bool) (later earlier : Past) → Bool
same_bank k l s = k s && on (bank_of l) s

abbrev pub covered : (later earlier : Past) → Bool
covered l s = a10_of l || on (bank_of l) s

abbrev pub covered_bank : (k : Past → Bool) (later earlier : Past) → Bool
covered_bank k l s = k s && covered l s

-- a name for each least spacing, after its rule: 12 has two, and 5 and 8 stand by themselves
pub data Row : Type 0 where
  r4 r6 r7 r9 r10 r11 r12r r12w r13 r14 r15 r16 r17 r18 r19 r20 r21 r22 r26 r27 r29 r30 : Row

-- ── The rules, at the record r after the past p ─────────────────────────────────────────────

module _ (C : Chip) where
  -- "1 Any other CKE change."; Q-1: "rule 1 no longer covers this entry or exit"
  abbrev pub rule1 : Record → Past → Break
  rule1 r p = cond (is Bad (r ∷ p)) (Broken 1 0 0 0) Fine

  -- "2 ACT needs an idle bank; .."; "the ACT of the lowest bank in the way"
  abbrev pub rule2 : Record → Past → Break
  rule2 r p = lowest (λ n. barred (command (r ∷ p)) (concerns (command (r ∷ p)) (a10 r) (on n (r ∷ p))) (status C n p (edge (r ∷ p)))) 8

  -- "3 MRS needs an allowed code and BA below 4; ACT all four registers written in this recording; RD a DLL reset in it."
  -- No code is allowed where BA is not below 4. Q-5: the refused bit stands "in found for rule 3 on an MRS, needed staying 0".
  abbrev pub rule3 : Record → Past → Break
  rule3 r p =
      cond (is Mrs (r ∷ p)) (demand (allowed C.header (bank_of (r ∷ p)) r.a) (bad_bit C.header (bank_of (r ∷ p)) r.a))
      (cond (is Act (r ∷ p)) (demand ((mr 0 p).written && ((mr 1 p).written && ((mr 2 p).written && (mr 3 p).written))) 0)
      (cond (is Rd (r ∷ p)) (demand (has dll_reset p) 0) Fine))

  -- Q-1, "entry spacings from JESD79-3's power-down table as one rule": "from RD, RL + 5; from WR, WL + h + t_wr, with auto precharge
  -- WL + h + programmed WR + 1; from MRS, t_mod". The table's other rows ask one clock, which two records always have
  unfoldable pub to_entry : Past → ℕ
  to_entry s =
      cond (is Rd s) (rl s + 5)
      (cond (is Wr s) (cond (a10_of s) (wl s + h s + wr s + 1) (wl s + h s + C.twr)) C.tmod)

  -- "Least spacings": rule, earlier record, later record, clocks
  abbrev pub spacing : Row → Spacing
  -- "4 ACT to RD, WR same bank: t_rcd - AL, at least 1."
  spacing r4 = least 4 (same_bank (is Act)) column (λ s. max (C.trcd - al s) 1)
  -- "6 ACT to ACT same bank: t_rc."
  spacing r6 = least 6 (same_bank (is Act)) (is Act) (λ _. C.trc)
  -- "7 ACT to ACT: t_rrd."
  spacing r7 = least 7 (any_bank (is Act)) (is Act) (λ _. C.trrd)
  -- "9 ACT to covering PRE: t_ras."
  spacing r9 = least 9 (covered_bank (is Act)) (is Pre) (λ _. C.tras)
  -- "10 RD to covering PRE: AL + t_rtp."
  spacing r10 = least 10 (covered_bank (is Rd)) (is Pre) (λ s. al s + C.trtp)
  -- "11 WR to covering PRE: WL + h + t_wr."
  spacing r11 = least 11 (covered_bank (is Wr)) (is Pre) (λ s. wl s + h s + C.twr)
  -- "12 RD to RD, WR to WR: 4."
  spacing r12r = least 12 (any_bank (is Rd)) (is Rd) (λ _. 4)
  spacing r12w = least 12 (any_bank (is Wr)) (is Wr) (λ _. 4)
  -- "13 RD to WR: CL - CWL + 2 + b."
  spacing r13 = least 13 (any_bank (is Rd)) (is Wr) (λ s. cl s + 2 + b s - cwl s)
  -- "14 WR to RD: CWL + h + t_wtr."
  spacing r14 = least 14 (any_bank (is Wr)) (is Rd) (λ s. cwl s + h s + C.twtr)
  -- "15 REF to any command: t_rfc."
  spacing r15 = least 15 (any_bank (is Ref)) any_command (λ _. C.trfc)
  -- "16 MRS to MRS: 4."
  spacing r16 = least 16 (any_bank (is Mrs)) (is Mrs) (λ _. 4)
  -- "17 MRS to another command: t_mod."
  spacing r17 = least 17 (any_bank (is Mrs)) (λ s. any_command s && not (is Mrs s)) (λ _. C.tmod)
  -- "18 ZQ to any command: its time."
  spacing r18 = least 18 (any_bank (is Zq)) any_command (λ s. cond (a10_of s) C.zqlong C.zqshort)
  -- "19 RD to MRS, SRE: RL + b."
  spacing r19 = least 19 (any_bank (is Rd)) (λ s. is Mrs s || is Sre s) (λ s. rl s + b s)
  -- "20 DLL reset or SRX to RD: 512."
  spacing r20 = least 20 (any_bank (λ s. dll_reset s || is Srx s)) (is Rd) (λ _. 512)
  -- "21 SRX to any command: t_xs."
  spacing r21 = least 21 (any_bank (is Srx)) any_command (λ _. C.txs)
  -- "22 SRE to SRX: t_cke + 1."
  spacing r22 = least 22 (any_bank (is Sre)) (is Srx) (λ _. C.tcke + 1)
  -- Q-1, 26: "entry spacings .. as one rule"
  spacing r26 = least 26 (any_bank (λ s. is Rd s || (is Wr s || is Mrs s))) (is Pde) to_entry
  -- 27: "CKE held at least t_cke"
  spacing r27 = least 27 (any_bank changes) changes (λ _. C.tcke)
  -- 29: "exit to any command t_xp"
  spacing r29 = least 29 (any_bank (is Pdx)) any_command (λ _. C.txp)
  -- 30: "after precharge power-down with MR0 A12 = 0, exit to RD"
  spacing r30 = least 30 (any_bank (slow_exit C)) (is Rd) (λ _. C.txpdll)

  abbrev pub spaced : Row → Record → Past → Break
  spaced x = row (spacing x)

  -- rule 5 at the edge e: "found counted from the start" of the event
  abbrev pub since : ℕ → Past → Break
  since e [] = Fine
  since e (r ∷ p) = short 5 e (start C (r ∷ p)) (number (r ∷ p)) C.trp Fine

  -- "5 precharge start to ACT same bank, to REF, MRS, ZQ, SRE any bank: t_rp."; "the PRE, RD or WR of the latest start (equal starts:
  -- later record)"
  abbrev pub rule5 : Record → Past → Break
  rule5 r p =
      cond (is Act (r ∷ p)) (since (edge (r ∷ p)) (greatest (closes (bank_of (r ∷ p))) (start C) p))
      (cond (is Ref (r ∷ p) || (is Mrs (r ∷ p) || (is Zq (r ∷ p) || is Sre (r ∷ p)))) (since (edge (r ∷ p)) (greatest shuts (start C) p)) Fine)

  -- rule 8 at the edge e, from the event
  abbrev pub fourth : ℕ → Past → Break
  fourth e [] = Fine
  fourth e (r ∷ p) = short 8 e (edge (r ∷ p)) (number (r ∷ p)) C.tfaw Fine

  -- "8 fourth ACT back to ACT: t_faw."
  abbrev pub rule8 : Record → Past → Break
  rule8 r p = cond (is Act (r ∷ p)) (fourth (edge (r ∷ p)) (back (is Act) 3 p)) Fine

  -- "23 SRE after an SRX needs a REF in between.": the latest SRX or REF is an SRX; "23 the SRX"
  abbrev pub rule23 : Record → Past → Break
  rule23 r p =
      let s = latest (λ s. is Srx s || is Ref s) p in
      cond (is Sre (r ∷ p) && is Srx s) (Broken 23 (number s) 0 0) Fine

  -- rules 1 to 23, by number
  abbrev pub checks : List (Record → Past → Break)
  checks =
      rule1 ∷ rule2 ∷ rule3
      ∷ spaced r4 ∷ rule5 ∷ spaced r6 ∷ spaced r7 ∷ rule8 ∷ spaced r9 ∷ spaced r10 ∷ spaced r11 ∷ spaced r12r ∷ spaced r12w ∷ spaced r13 ∷ spaced r14
      ∷ spaced r15 ∷ spaced r16 ∷ spaced r17 ∷ spaced r18 ∷ spaced r19 ∷ spaced r20 ∷ spaced r21 ∷ spaced r22
      ∷ rule23 ∷ []

  -- 26 and 27, at a change of CKE; 29 and 30, after an exit
  abbrev pub change_checks : List (Record → Past → Break)
  change_checks = spaced r26 ∷ spaced r27 ∷ []

  abbrev pub exit_checks : List (Record → Past → Break)
  exit_checks = spaced r29 ∷ spaced r30 ∷ []

-- the first of the checks that the record r after the past p breaks
abbrev pub break_at : List (Record → Past → Break) → Record → Past → Break
break_at [] r p = Fine
break_at (f ∷ fs) r p = or_else (f r p) (break_at fs r p)
