-- One turn of the quick way: a frequent command that is found fine where no deadline passes takes one track to the next.
-- Assumes nothing.
use Prim.Native.Nat.{ℕ, ◌+◌, ◌/◌, ◌%◌, ◌≤◌, ◌<◌, max}
use native.Mathlib.Omega.{arith}
use mathlib.Core.Bool.{Bool, true, false}
use mathlib.Core.List.{List}
use mathlib.Core.Logic.{◌⊎◌, inl, inr, ⊎_elim}
use mathlib.Core.Path.{◌≡◌, refl, sym, ap, ◌∙◌}
use lib.Dec.{eqb}
use lib.ListN.{get_or}
use borrow.Author.Tests.{eq-eqb, ne_eqb}
use Rattle.laws.proofs.Eight.{get_or-table}
use Rattle.records.specs.declared.Record.{Record}
use Rattle.records.specs.declared.Command.{Command}
use Rattle.records.specs.declared.Command.TheVariants.{Pre, Act, Wr, Rd, Nop, Des}
use Rattle.records.specs.Command.{by_pins, command_of, a10, bank_in}
use Rattle.chip.specs.declared.Chip.{Chip}
use Rattle.running.specs.declared.Asks.{Asks}
use Rattle.edges.specs.declared.Banks.{Banks}
use Rattle.edges.specs.declared.Waits.{Waits}
use Rattle.edges.specs.declared.Acts.{Acts}
use Rattle.edges.specs.declared.Floor.{Floor}
use Rattle.edges.specs.declared.Rank.{Rank}
use Rattle.edges.specs.Asks.{wait_for}
use Rattle.edges.specs.Says.{command_in}
use Rattle.edges.specs.Step.{moved_of, step_of}
use Rattle.edges.specs.Floors.{under, settled}
use Rattle.edges.specs.Ways.{shut_floor, column_floor, four_at, act_floor}
use Rattle.edges.specs.Running.{Track, Rest, held_by, rank_of, Quiet, Standing}
use Rattle.edges.proofs.Lists.{get_or-low, get_or-high}
use Rattle.edges.proofs.Easy.{NoneDue, NotOwed, NotLong, AllFine, says_none}
use Rattle.edges.proofs.Fine.{act-fine, rd-fine, wr-fine, pre-fine, nop-fine, des-fine}
use Rattle.edges.proofs.Ways.{Sized}
use Rattle.edges.proofs.Moving.{after, shut_by, shut_waits_by, act_by, act_waits_by, act_acts_by, col_by, col_waits_by, start_by, nop-moves, des-moves, pre-moves, act-moves, rd-moves, wr-moves, rd-auto-moves, wr-auto-moves}

-- ── What a command waits for, with the floor ────────────────────────────────────────────────

module _ (f : Floor) (W : Waits) (r : Record) where
  wait-act : wait_for (under f W) Act r ≡ max (get_or W.act (bank_in r) 0) f.act
  unfolding under
  wait-act = get_or-table (λ b. max (get_or W.act b 0) f.act) (bank_in r) 0 (omega arith)

  wait-rd : wait_for (under f W) Rd r ≡ max (get_or W.col (bank_in r) 0) f.rd
  unfolding under
  wait-rd = get_or-low (λ b. max (get_or W.col b 0) f.rd) (λ b. max (get_or W.col (b + 8) 0) f.wr) (bank_in r) 0 (omega arith)

  wait-wr : wait_for (under f W) Wr r ≡ max (get_or W.col (bank_in r + 8) 0) f.wr
  unfolding under
  wait-wr = get_or-high (λ b. max (get_or W.col b 0) f.rd) (λ b. max (get_or W.col (b + 8) 0) f.wr) (bank_in r) 0 (omega arith)

  wait-pre : a10 r ≡ false → wait_for (under f W) Pre r ≡ max (get_or W.pre (bank_in r) 0) f.pre
  unfolding under
  wait-pre z = rw z (get_or-table (λ b. max (get_or W.pre b 0) f.pre) (bank_in r) 0 (omega arith))

-- pins above 7 are a DES
deselected : (m : ℕ) → 7 < m → by_pins m ≡ Des
unfolding by_pins
deselected m l =
    rw (
      ne_eqb m 0 (λ e. omega arith),
      ne_eqb m 1 (λ e. omega arith),
      ne_eqb m 2 (λ e. omega arith),
      ne_eqb m 3 (λ e. omega arith),
      ne_eqb m 4 (λ e. omega arith),
      ne_eqb m 5 (λ e. omega arith),
      ne_eqb m 6 (λ e. omega arith),
      ne_eqb m 7 (λ e. omega arith),
    )

both-over : {x a b e : ℕ} → x ≡ max a b → a ≤ e → b ≤ e → x ≤ e
both-over p l m = omega (arith, p)

module _ (C : Chip) (w : Asks) (set dll : Bool) (clear : ℕ) (d : Rest) (quiet : Quiet C w set dll clear d) (bytes : List ℕ) (at : ℕ) (t : Track)
    (stands : Standing C clear bytes at t) (r : Record) (high : r.cke ≡ true) (before : t.edge + r.step < clear) where
  abbrev e : ℕ
  e = t.edge + r.step

  abbrev n : ℕ
  n = t.count + 1

  abbrev s : Rank
  s = held_by d t

  abbrev f : Floor
  f = t.floor

  abbrev own : ℕ
  own = bank_in r

  none-due : NoneDue C t.banks t.edge e
  none-due b l = ⊎_elim (λ x. inl x) (λ x. inr (omega (arith, x, before))) (stands.due b l)

  not-owed : NotOwed d.debt e
  not-owed = ⊎_elim (λ x. inl x) (λ x. inr (omega (arith, x.0, before), omega (arith, x.1, before))) quiet.owed

  -- the step is the move
  not-long : NotLong C (rank_of d t) e
  unfolding settled
  not-long = inl quiet.level

  clean_step : AllFine C (rank_of d t) r e → step_of C (rank_of d t) r ≡ moved_of C (rank_of d t) r
  unfolding step_of settled
  clean_step fine = rw (eq-eqb d.first.outcome 0 quiet.clean, says_none C (rank_of d t) r none-due not-owed not-long fine)

  by-pins : command_in (rank_of d t) r ≡ by_pins r.pins
  unfolding settled command_of
  by-pins = rw (quiet.level, high)

  held-pins : command_in s r ≡ by_pins r.pins
  unfolding command_of
  held-pins = rw (quiet.level, high)

  pub size : Sized s.waits
  size = record { act = stands.actsize; col = stands.colsize; pre = stands.presize }

  -- the track after a record, and the rank of it
  abbrev pub next : Banks → Waits → Acts → Floor → Track
  next B W A g = record { edge = e; count = n; banks = B; act = W.act; col = W.col; pre = W.pre; acts = A; floor = g }

  level-same : (B : Banks) (W : Waits) (A : Acts) (g : Floor) → W.holds ≡ d.holds → settled g (after C s f r B W A) ≡ rank_of d (next B W A g)
  level-same B W A g h = λ i. settled g (record {
    edge = e;
    count = n;
    first = d.first;
    level = (high ∙ sym quiet.level) i;
    debt = d.debt;
    banks = B;
    waits = record { act = W.act; col = W.col; pre = W.pre; holds = h i };
    acts = A;
    device = d.device;
  })

  turned : (B : Banks) (W : Waits) (A : Acts) (g : Floor) → W.holds ≡ d.holds → AllFine C (rank_of d t) r e
      → moved_of C (rank_of d t) r ≡ settled g (after C s f r B W A) → step_of C (rank_of d t) r ≡ rank_of d (next B W A g)
  turned B W A g h fine moved = clean_step fine ∙ moved ∙ level-same B W A g h

  pins-of : (m : ℕ) (c : Command) → r.pins ≡ m → by_pins m ≡ c → (command_in (rank_of d t) r ≡ c) × (command_in s r ≡ c)
  pins-of m c p q = (by-pins ∙ ap by_pins p ∙ q, held-pins ∙ ap by_pins p ∙ q)

  pub nop-turn : r.pins ≡ 7 → step_of C (rank_of d t) r ≡ rank_of d (next t.banks s.waits t.acts f)
  unfolding by_pins settled
  nop-turn p =
      let c = pins-of 7 Nop p refl in
      turned t.banks s.waits t.acts f refl (nop-fine C (rank_of d t) r e c.0) (nop-moves C s f r size c.1)

  pub des-turn : 7 < r.pins → step_of C (rank_of d t) r ≡ rank_of d (next t.banks s.waits t.acts f)
  unfolding settled
  des-turn p =
      let q : by_pins r.pins ≡ Des = deselected r.pins p in
      turned t.banks s.waits t.acts f refl (des-fine C (rank_of d t) r e (by-pins ∙ q)) (des-moves C s f r size (held-pins ∙ q))

  pub pre-turn : r.pins ≡ 2 → a10 r ≡ false → (get_or t.banks.shutno own 0 < get_or t.banks.actno own 0) ⊎ (get_or t.banks.shutat own 0 ≤ e)
      → get_or t.pre own 0 ≤ e → f.pre ≤ e
      → step_of C (rank_of d t) r ≡ rank_of d (next (shut_by C s f r size t.banks e) (shut_waits_by C s f r size s.waits (e + C.trp)) t.acts (shut_floor f (e + C.trp)))
  unfolding by_pins settled
  pre-turn p z k x y =
      let c = pins-of 2 Pre p refl in
      turned _ _ t.acts _ refl (pre-fine C (rank_of d t) r e c.0 z k (both-over (wait-pre f s.waits r z) x y)) (pre-moves C s f r size c.1 z)

  pub act-turn : r.pins ≡ 3 → set ≡ true → get_or t.banks.actno own 0 ≤ get_or t.banks.shutno own 0 → get_or t.banks.shutat own 0 ≤ e
      → get_or t.act own 0 ≤ e → f.act ≤ e
      → step_of C (rank_of d t) r
      ≡ rank_of d (next (act_by C s f r size w quiet.asked) (act_waits_by C s f r size w quiet.asked) (act_acts_by C s f r size w quiet.asked)
      (act_floor f (e + C.trrd) (four_at t.acts.at t.acts.no t.acts.turn C.tfaw)))
  unfolding by_pins settled
  act-turn p z k l x y =
      let c = pins-of 3 Act p refl in
      turned _ _ _ _ refl (act-fine C (rank_of d t) r e c.0 (k, l) (quiet.written ∙ z) (both-over (wait-act f s.waits r) x y)) (act-moves C s f r size w quiet.asked c.1)

  abbrev rd_long : Bool
  rd_long = eqb (r.a / 4096 % 2) 1

  abbrev pub col_next : (rd : Bool) (i : ℕ) → Track
  col_next rd i = next (col_by C s f r size w quiet.asked rd i) (col_waits_by C s f r size w quiet.asked rd) t.acts (column_floor f w rd rd_long e)

  abbrev pub col_starts : (rd : Bool) → ℕ
  col_starts rd = start_by C s f r size w quiet.asked rd

  abbrev pub auto_next : (rd : Bool) (i : ℕ) → Track
  auto_next rd i =
      next (shut_by C s f r size (col_by C s f r size w quiet.asked rd i) (col_starts rd))
      (shut_waits_by C s f r size (col_waits_by C s f r size w quiet.asked rd) (col_starts rd + C.trp)) t.acts
      (shut_floor (column_floor f w rd rd_long e) (col_starts rd + C.trp))

  module _ (opened : get_or t.banks.shutno own 0 < get_or t.banks.actno own 0) where
    module _ (p : r.pins ≡ 5) (z : dll ≡ true) (x : get_or t.col own 0 ≤ e) (y : f.rd ≤ e) where
      rd-clean : AllFine C (rank_of d t) r e
      unfolding by_pins settled
      rd-clean = rd-fine C (rank_of d t) r e (pins-of 5 Rd p refl).0 opened (quiet.reset ∙ z) (both-over (wait-rd f s.waits r) x y)

      pub rd-turn : a10 r ≡ false → step_of C (rank_of d t) r ≡ rank_of d (col_next true own)
      unfolding by_pins
      rd-turn o = turned _ _ t.acts _ refl rd-clean (rd-moves C s f r size w quiet.asked (pins-of 5 Rd p refl).1 o)

      pub rd-auto-turn : a10 r ≡ true → step_of C (rank_of d t) r ≡ rank_of d (auto_next true own)
      unfolding by_pins
      rd-auto-turn o = turned _ _ t.acts _ refl rd-clean (rd-auto-moves C s f r size w quiet.asked (pins-of 5 Rd p refl).1 o)

    module _ (p : r.pins ≡ 4) (x : get_or t.col (own + 8) 0 ≤ e) (y : f.wr ≤ e) where
      wr-clean : AllFine C (rank_of d t) r e
      unfolding by_pins settled
      wr-clean = wr-fine C (rank_of d t) r e (pins-of 4 Wr p refl).0 opened (both-over (wait-wr f s.waits r) x y)

      pub wr-turn : a10 r ≡ false → step_of C (rank_of d t) r ≡ rank_of d (col_next false (own + 8))
      unfolding by_pins
      wr-turn o = turned _ _ t.acts _ refl wr-clean (wr-moves C s f r size w quiet.asked (pins-of 4 Wr p refl).1 o)

      pub wr-auto-turn : a10 r ≡ true → step_of C (rank_of d t) r ≡ rank_of d (auto_next false (own + 8))
      unfolding by_pins
      wr-auto-turn o = turned _ _ t.acts _ refl wr-clean (wr-auto-moves C s f r size w quiet.asked (pins-of 4 Wr p refl).1 o)
