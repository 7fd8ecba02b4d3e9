-- The waiting times: what a record asks of later commands, rule by rule, and what a command has to wait for.
-- Assumes nothing.
use Rattle.std.specs.Prelude.{ℕ, zero, suc, ◌+◌, ◌-◌, ◌%◌, max, Bool, cond, ◌&&◌, ◌||◌, List, [], ◌∷◌, ◌++◌, eqb, get_or}
use Rattle.laws.specs.Eight.{table}
use Rattle.records.specs.declared.Record.{Record}
use Rattle.records.specs.declared.Command.{Command}
use Rattle.records.specs.declared.Command.TheVariants.{Mrs, Ref, Pre, Act, Wr, Rd, Zq, Nop, Des, Sre, Srx, Low, Bad, Pde, Pdx}
use Rattle.records.specs.Command.{is_a, a10, bank_in}
use Rattle.chip.specs.declared.Chip.{Chip}
use Rattle.chip.specs.declared.Regs.{Regs}
use Rattle.chip.specs.Latencies.{al_of, cl_of, cwl_of, h_of, b_of}
use Rattle.running.specs.Next.{need4, need10, need11, resets_now, shuts_now}
use Rattle.edges.specs.declared.Acts.{Acts}
use Rattle.edges.specs.declared.Waits.{Waits}

-- the clocks that a record asks for, by the registers g in force at it
abbrev pub need13 : Regs → Record → ℕ
need13 g r = cl_of g + 2 + b_of g r.a - cwl_of g

abbrev pub need14 : Chip → Regs → ℕ
need14 C g = cwl_of g + h_of g + C.twtr

abbrev pub need18 : Chip → Record → ℕ
need18 C r = cond (a10 r) C.zqlong C.zqshort

abbrev pub need19 : Regs → Record → ℕ
need19 g r = al_of g + cl_of g + b_of g r.a

-- rule 8: of the ACT that is fourth back when the next one comes; the last four are those before this one
abbrev pub four_back : Chip → Acts → ℕ
four_back C A = let i = (A.turn + 1) % 4 in cond (eqb (get_or A.no i 0) 0) 0 (get_or A.at i 0 + C.tfaw)

-- an edge that is asked for where x holds
abbrev pub when : Bool → ℕ → ℕ
when x n = cond x n 0

abbrev pub most : List ℕ → ℕ
most [] = 0
most (n ∷ ns) = max n (most ns)

-- of a record r of the command c at the edge e: g the registers in force at it, start that of its precharge, four what rule 8 asks, slow that an
-- exit is one of precharge power-down with MR0 A12 = 0
module _ (C : Chip) (c : Command) (r : Record) (e : ℕ) (g : Regs) (start four : ℕ) (slow : Bool) where
  -- its bank is b
  abbrev pub own : ℕ → Bool
  own b = eqb (bank_in r) b

  -- it closes bank b
  abbrev pub closes_now : ℕ → Bool
  closes_now b = is_a Pre c && (a10 r || own b) || (is_a Rd c || is_a Wr c) && (a10 r && own b)

  -- what it asks of a command on bank b
  unfoldable pub asks_act : (bank : ℕ) → ℕ
  asks_act b =
      most
      (when (closes_now b) (start + C.trp) ∷ when (is_a Act c && own b) (e + C.trc) ∷ when (is_a Act c) (e + C.trrd) ∷ when (is_a Act c) four
      ∷ when (is_a Ref c) (e + C.trfc) ∷ when (is_a Mrs c) (e + C.tmod) ∷ when (is_a Zq c) (e + need18 C r) ∷ when (is_a Srx c) (e + C.txs) ∷ when (is_a Pdx c) (e + C.txp) ∷ [])

  unfoldable pub asks_rd : (bank : ℕ) → ℕ
  asks_rd b =
      most
      (when (is_a Act c && own b) (e + need4 C g) ∷ when (is_a Rd c) (e + 4) ∷ when (is_a Wr c) (e + need14 C g)
      ∷ when (is_a Ref c) (e + C.trfc) ∷ when (is_a Mrs c) (e + C.tmod) ∷ when (is_a Zq c) (e + need18 C r)
      ∷ when (resets_now c r || is_a Srx c) (e + 512) ∷ when (is_a Srx c) (e + C.txs) ∷ when (is_a Pdx c) (e + C.txp)
      ∷ when (is_a Pdx c && slow) (e + C.txpdll) ∷ [])

  unfoldable pub asks_wr : (bank : ℕ) → ℕ
  asks_wr b =
      most
      (when (is_a Act c && own b) (e + need4 C g) ∷ when (is_a Wr c) (e + 4) ∷ when (is_a Rd c) (e + need13 g r)
      ∷ when (is_a Ref c) (e + C.trfc) ∷ when (is_a Mrs c) (e + C.tmod) ∷ when (is_a Zq c) (e + need18 C r) ∷ when (is_a Srx c) (e + C.txs) ∷ when (is_a Pdx c) (e + C.txp) ∷ [])

  unfoldable pub asks_pre : (bank : ℕ) → ℕ
  asks_pre b =
      most
      (when (is_a Act c && own b) (e + C.tras) ∷ when (is_a Rd c && own b) (e + need10 C g) ∷ when (is_a Wr c && own b) (e + need11 C g)
      ∷ when (is_a Ref c) (e + C.trfc) ∷ when (is_a Mrs c) (e + C.tmod) ∷ when (is_a Zq c) (e + need18 C r) ∷ when (is_a Srx c) (e + C.txs) ∷ when (is_a Pdx c) (e + C.txp) ∷ [])

  -- what it asks of a REF and of a ZQ, of an MRS, of an SRE
  unfoldable pub asks_ref : ℕ
  asks_ref =
      most
      (when (shuts_now c r) (start + C.trp)
      ∷ when (is_a Ref c) (e + C.trfc) ∷ when (is_a Mrs c) (e + C.tmod) ∷ when (is_a Zq c) (e + need18 C r) ∷ when (is_a Srx c) (e + C.txs) ∷ when (is_a Pdx c) (e + C.txp) ∷ [])

  unfoldable pub asks_mrs : ℕ
  asks_mrs =
      most
      (when (shuts_now c r) (start + C.trp)
      ∷ when (is_a Ref c) (e + C.trfc) ∷ when (is_a Mrs c) (e + 4) ∷ when (is_a Zq c) (e + need18 C r)
      ∷ when (is_a Rd c) (e + need19 g r) ∷ when (is_a Srx c) (e + C.txs) ∷ when (is_a Pdx c) (e + C.txp) ∷ [])

  unfoldable pub asks_sre : ℕ
  asks_sre =
      most
      (when (shuts_now c r) (start + C.trp)
      ∷ when (is_a Ref c) (e + C.trfc) ∷ when (is_a Mrs c) (e + C.tmod) ∷ when (is_a Zq c) (e + need18 C r)
      ∷ when (is_a Rd c) (e + need19 g r) ∷ when (is_a Srx c) (e + C.txs) ∷ when (is_a Pdx c) (e + C.txp) ∷ [])

  -- "the greater of what was and what the record now asks"
  unfoldable pub waits_next : Waits → Waits
  waits_next W =
      record {
        act = table (λ b. max (get_or W.act b 0) (asks_act b));
        col = table (λ b. max (get_or W.col b 0) (asks_rd b)) ++ table (λ b. max (get_or W.col (b + 8) 0) (asks_wr b));
        pre = table (λ b. max (get_or W.pre b 0) (asks_pre b));
        holds =
            max (get_or W.holds 0 0) asks_ref ∷ max (get_or W.holds 1 0) asks_mrs ∷ max (get_or W.holds 2 0) asks_ref
            ∷ max (get_or W.holds 3 0) asks_sre ∷ [];
      }

-- the greatest of the first n
unfoldable pub greatest : List ℕ → (n : ℕ) → ℕ
greatest xs zero = 0
greatest xs (suc n) = max (greatest xs n) (get_or xs n 0)

-- what the record r of the command c has to wait for; a PRE of all banks waits for each of them
abbrev pub wait_for : Waits → Command → Record → ℕ
wait_for W Act r = get_or W.act (bank_in r) 0
wait_for W Rd r = get_or W.col (bank_in r) 0
wait_for W Wr r = get_or W.col (bank_in r + 8) 0
wait_for W Pre r = cond (a10 r) (greatest W.pre 8) (get_or W.pre (bank_in r) 0)
wait_for W Ref r = get_or W.holds 0 0
wait_for W Mrs r = get_or W.holds 1 0
wait_for W Zq r = get_or W.holds 2 0
wait_for W Sre r = get_or W.holds 3 0
wait_for W Nop r = 0
wait_for W Des r = 0
wait_for W Srx r = 0
wait_for W Low r = 0
wait_for W Bad r = 0
wait_for W Pde r = 0
wait_for W Pdx r = 0
