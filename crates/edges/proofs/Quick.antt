-- The ways of the quick loop: each takes the loop one record further.
-- Assumes nothing.
use Prim.Native.Nat.{ℕ, ◌+◌, ◌*◌, ◌/◌, ◌%◌, ◌≤◌, ◌<◌}
use native.Mathlib.Omega.{arith}
use mathlib.Core.Bool.{Bool, true, false, cond, not, ◌&&◌, ◌||◌}
use mathlib.Core.List.{List}
use mathlib.Core.Logic.{◌⊎◌, inl, inr, ⊎_elim}
use mathlib.Core.Path.{◌≡◌, refl, sym, ap, ◌∙◌, subst}
use lib.Dec.{eqb, leb, ltb}
use lib.ListN.{get_or, set, length, length-set}
use native.Mathlib.Decide.{ℕ_discrete}
use borrow.Author.Tests.{eq-eqb, ne_eqb, eqb-true, leb-true, ltb-true}
use Rattle.laws.proofs.Eight.{at_set}
use Rattle.records.specs.declared.Record.{Record}
use Rattle.records.specs.Record.{record_at}
use Rattle.records.specs.Command.{a10, bank_in}
use Rattle.chip.specs.declared.Chip.{Chip}
use Rattle.running.specs.declared.Asks.{Asks}
use Rattle.running.specs.Ranges.{last_edge}
use Rattle.laws.proofs.Both.{both}
use Rattle.edges.specs.declared.Banks.{Banks}
use Rattle.edges.specs.declared.Acts.{Acts}
use Rattle.edges.specs.declared.Floor.{Floor}
use Rattle.edges.specs.Ways.{raised_at, shut_floor, column_floor, col_pre, col_start, four_at, act_floor, shut_banks, act_banks, col_banks, may_column, may_precharge, may_activate}
use Rattle.edges.specs.Step.{step_of}
use Rattle.edges.specs.Running.{Track, Rest, rank_of, Quiet, Standing, Quickly}
use Rattle.edges.proofs.Lists.{get_d_set}
use Rattle.edges.proofs.Dues.{due-at, NoneSoon, same-soon, other-soon, open-off, closed-off, idle-off, opened-off}
use Rattle.edges.specs.Clearing.{Off}
use Rattle.edges.proofs.Turning.{nop-turn, des-turn, pre-turn, act-turn, rd-turn, rd-auto-turn, wr-turn, wr-auto-turn}
use Rattle.edges.proofs.Stands.{further, quick-more, last-edge}

either-of : (x y : Bool) → x || y ≡ true → (x ≡ true) ⊎ (y ≡ true)
either-of true y h = inl refl
either-of false y h = inr h

not-a10 : (r : Record) → (r.a / 1024 % 2 ≡ 1 → ⊥) → a10 r ≡ false
not-a10 r h = ne_eqb (r.a / 1024 % 2) 1 h

module _ (C : Chip) (w : Asks) (put dll : Bool) (clear : ℕ) (bytes : List ℕ) (t₀ : Track) (at₀ : ℕ) (t : Track) (at : ℕ)
    (q : Quickly C w put dll clear bytes t₀ at₀ t at) (h : at < length bytes) (r : Record) (is : r ≡ record_at bytes at)
    (some : r.step ≡ 0 → ⊥) (high : r.cke ≡ true) (before : t.edge + r.step < clear) where
  abbrev e : ℕ
  e = t.edge + r.step

  abbrev n : ℕ
  n = t.count + 1

  abbrev own : ℕ
  own = bank_in r

  abbrev B : Banks
  B = t.banks

  st : Standing C clear bytes at t
  st = q.stands

  same-edge : t.edge ≤ e
  same-edge = omega arith

  acting-own : (b : ℕ) → b < 8 → get_or B.actno b 0 ≤ t.count
  acting-own b l = st.acting (omega (arith, before)) b l

  acting-on : e < clear → (b : ℕ) → b < 8 → get_or B.actno b 0 ≤ t.count + 1
  acting-on z b l = omega (arith, acting-own b l)

  -- the track after a record
  abbrev pub track : Banks → (act col pre : List ℕ) → Acts → Floor → Track
  track K x y z A g = record { edge = e; count = n; banks = K; act = x; col = y; pre = z; acts = A; floor = g }

  more : (t' : Track) → t'.edge ≡ e → Standing C clear bytes (at + 6) t' → ((d : Rest) → Quiet C w put dll clear d → step_of C (rank_of d t) r ≡ rank_of d t')
      → Quickly C w put dll clear bytes t₀ at₀ t' (at + 6)
  more t' same s' f = quick-more C clear bytes at t st h r is w put dll t₀ at₀ q t' s' some before same f

  pub quick-nop : 7 ≤ r.pins → Quickly C w put dll clear bytes t₀ at₀ (track B t.act t.col t.pre t.acts t.floor) (at + 6)
  quick-nop p = more (track B t.act t.col t.pre t.acts t.floor) refl
      (further C clear bytes at t st h r is B t.act t.col t.pre t.acts t.floor st.acted st.ring acting-on
      (same-soon C B B t.edge e clear same-edge refl refl refl refl st.due) st.turn st.actsize st.colsize st.presize st.actedsize st.numsize st.shutsize st.bysize st.ringsize)
      (λ d k. elim (ℕ_discrete r.pins 7) [
        | yes y ↦ nop-turn C w put dll clear d k bytes at t st r high before y
        | no z ↦ des-turn C w put dll clear d k bytes at t st r high before (omega arith)
      ])

  -- ── A bank that is closed ───────────────────────────────────────────────────────────────────

  -- with a precharge of the record's bank that starts at the edge x
  abbrev pub shut_by : Banks → (x : ℕ) → Banks
  shut_by K x = shut_banks K own x n

  kept_at : (xs : List ℕ) (b : ℕ) → get_or xs b 0 ≡ cond (eqb own b) (get_or xs own 0) (get_or xs b 0)
  kept_at xs b = go (eqb own b) refl
    where
      go : (x : Bool) → eqb own b ≡ x → get_or xs b 0 ≡ cond x (get_or xs own 0) (get_or xs b 0)
      go true z = ap (λ i. get_or xs i 0) (sym (eqb-true own b z))
      go false z = refl

  -- a bank that was open, or one that is closed at the edge itself
  shut-soon : (K : Banks) (x : ℕ) → K.actat ≡ B.actat → K.actno ≡ B.actno → K.shutat ≡ B.shutat → K.shutno ≡ B.shutno
      → (get_or B.shutno own 0 < get_or B.actno own 0) ⊎ (x ≡ e) → NoneSoon C (shut_by K x) e clear
  shut-soon K x p u v y k =
      other-soon C B (shut_by K x) own (get_or B.actat own 0) (get_or B.actno own 0) x n
      (λ b. ap (λ xs. get_or xs b 0) p ∙ kept_at B.actat b) (λ b. ap (λ xs. get_or xs b 0) u ∙ kept_at B.actno b)
      (λ b. ap (λ xs. get_or (set xs own x) b 0) v ∙ get_d_set B.shutat own x b 0 (omega (arith, st.shutsize)))
      (λ b. ap (λ xs. get_or (set xs own n) b 0) y ∙ get_d_set B.shutno own n b 0 (omega (arith, st.bysize)))
      t.edge e clear same-edge st.due
      (⊎_elim
      (λ l. closed-off t.edge e clear C.most (get_or B.actat own 0) (get_or B.actno own 0) (get_or B.shutat own 0) (get_or B.shutno own 0) x n same-edge
      (omega (arith, acting-own own (omega arith)))
      (open-off t.edge clear C.most (get_or B.actat own 0) (get_or B.actno own 0) (get_or B.shutat own 0) (get_or B.shutno own 0) l
      (subst (Off t.edge clear) (due-at C B own (omega arith)) (st.due own (omega arith)))))
      (λ (z : x ≡ e). rw z (idle-off e clear C.most (get_or B.actat own 0) (get_or B.actno own 0) e n (omega (arith, acting-own own (omega arith))) (omega arith)))
      k)

  pub quick-pre : r.pins ≡ 2 → a10 r ≡ false
      → may_precharge (get_or B.shutno own 0) (get_or B.actno own 0) (get_or B.shutat own 0) (get_or t.pre own 0) t.floor.pre e ≡ true
      → Quickly C w put dll clear bytes t₀ at₀ (track (shut_by B e) (raised_at t.act own (e + C.trp)) t.col t.pre t.acts (shut_floor t.floor (e + C.trp))) (at + 6)
  quick-pre p z m =
      let m1 = both (ltb (get_or B.shutno own 0) (get_or B.actno own 0) || leb (get_or B.shutat own 0) e) _ m in
      let m2 = both (leb (get_or t.pre own 0) e) (leb t.floor.pre e) m1.1 in
      let k = ⊎_elim (λ x. inl (ltb-true _ _ x)) (λ x. inr (leb-true _ _ x)) (either-of (ltb (get_or B.shutno own 0) (get_or B.actno own 0)) (leb (get_or B.shutat own 0) e) m1.0) in
      more _ refl
      (further C clear bytes at t st h r is (shut_by B e) (raised_at t.act own (e + C.trp)) t.col t.pre t.acts (shut_floor t.floor (e + C.trp))
      st.acted st.ring acting-on (shut-soon B e refl refl refl refl (inr refl)) st.turn
      (length-set t.act own _ ∙ st.actsize) st.colsize st.presize st.actedsize st.numsize
      (length-set B.shutat own _ ∙ st.shutsize) (length-set B.shutno own _ ∙ st.bysize) st.ringsize)
      (λ d k'. pre-turn C w put dll clear d k' bytes at t st r high before p z k (leb-true _ _ m2.0) (leb-true _ _ m2.1))

  -- ── An ACT ──────────────────────────────────────────────────────────────────────────────────

  abbrev pub act_by : Banks
  act_by = act_banks B w own r.a e n

  act-soon : NoneSoon C act_by e clear
  act-soon =
      other-soon C B act_by own e n (get_or B.shutat own 0) (get_or B.shutno own 0)
      (λ b. get_d_set B.actat own e b 0 (omega (arith, st.actedsize))) (λ b. get_d_set B.actno own n b 0 (omega (arith, st.numsize)))
      (λ b. kept_at B.shutat b) (λ b. kept_at B.shutno b) t.edge e clear same-edge st.due
      (opened-off e clear C.most n (get_or B.shutat own 0) (get_or B.shutno own 0) (omega (arith, st.soon)))

  pub quick-act : r.pins ≡ 3 → put ≡ true
      → may_activate (get_or B.shutno own 0) (get_or B.actno own 0) (get_or B.shutat own 0) (get_or t.act own 0) t.floor.act e ≡ true
      → Quickly C w put dll clear bytes t₀ at₀
      (track act_by (raised_at t.act own (e + C.trc)) (raised_at (raised_at t.col own (e + w.n4)) (own + 8) (e + w.n4)) (raised_at t.pre own (e + C.tras))
      (record { at = set t.acts.at t.acts.turn e; no = set t.acts.no t.acts.turn n; turn = (t.acts.turn + 1) % 4 })
      (act_floor t.floor (e + C.trrd) (four_at t.acts.at t.acts.no t.acts.turn C.tfaw))) (at + 6)
  quick-act p z m =
      let m1 = both (leb (get_or B.actno own 0) (get_or B.shutno own 0) && leb (get_or B.shutat own 0) e) _ m in
      let m0 = both (leb (get_or B.actno own 0) (get_or B.shutno own 0)) (leb (get_or B.shutat own 0) e) m1.0 in
      let m2 = both (leb (get_or t.act own 0) e) (leb t.floor.act e) m1.1 in
      let le = last-edge C clear bytes at t st h r is in
      more _ refl
      (further C clear bytes at t st h r is act_by _ _ _ _ _
      (λ b l. at_set (λ x. x ≤ last_edge) 0 B.actat own e b le (st.acted b l))
      (λ i l. at_set (λ x. x ≤ last_edge) 0 t.acts.at t.acts.turn e i le (st.ring i l))
      (λ z b l. at_set (λ x. x ≤ t.count + 1) 0 B.actno own n b (omega arith) (acting-on z b l))
      act-soon (omega arith)
      (length-set t.act own _ ∙ st.actsize)
      (length-set (raised_at t.col own (e + w.n4)) (own + 8) _ ∙ length-set t.col own _ ∙ st.colsize) (length-set t.pre own _ ∙ st.presize)
      (length-set B.actat own _ ∙ st.actedsize) (length-set B.actno own _ ∙ st.numsize) st.shutsize st.bysize
      (length-set t.acts.at t.acts.turn _ ∙ st.ringsize))
      (λ d k. act-turn C w put dll clear d k bytes at t st r high before p z (leb-true _ _ m0.0) (leb-true _ _ m0.1) (leb-true _ _ m2.0) (leb-true _ _ m2.1))

  -- ── A RD or WR ──────────────────────────────────────────────────────────────────────────────

  abbrev long_now : Bool
  long_now = eqb (r.a / 4096 % 2) 1

  -- at the place i
  abbrev pub col_by : (rd : Bool) (i : ℕ) → Banks
  col_by rd i = col_banks B w rd long_now i e n

  abbrev pub col_track : (rd : Bool) (i : ℕ) → Track
  col_track rd i = track (col_by rd i) t.act t.col (raised_at t.pre own (e + col_pre w rd)) t.acts (column_floor t.floor w rd long_now e)

  abbrev pub start_of_col : (rd : Bool) → ℕ
  start_of_col rd = col_start w C.tras rd e (get_or B.actat own 0)

  abbrev pub auto_track : (rd : Bool) (i x : ℕ) → Track
  auto_track rd i x =
      track (shut_by (col_by rd i) x) (raised_at t.act own (x + C.trp)) t.col (raised_at t.pre own (e + col_pre w rd)) t.acts
      (shut_floor (column_floor t.floor w rd long_now e) (x + C.trp))

  col-stands : (rd : Bool) (i : ℕ) → Standing C clear bytes (at + 6) (col_track rd i)
  col-stands rd i =
      further C clear bytes at t st h r is (col_by rd i) _ _ _ _ _ st.acted st.ring acting-on
      (same-soon C B (col_by rd i) t.edge e clear same-edge refl refl refl refl st.due) st.turn
      st.actsize st.colsize (length-set t.pre own _ ∙ st.presize) st.actedsize st.numsize st.shutsize st.bysize st.ringsize

  auto-stands : (rd : Bool) (i x : ℕ) → get_or B.shutno own 0 < get_or B.actno own 0 → Standing C clear bytes (at + 6) (auto_track rd i x)
  auto-stands rd i x l =
      further C clear bytes at t st h r is (shut_by (col_by rd i) x) _ _ _ _ _ st.acted st.ring acting-on
      (shut-soon (col_by rd i) x refl refl refl refl (inl l)) st.turn
      (length-set t.act own _ ∙ st.actsize) st.colsize (length-set t.pre own _ ∙ st.presize) st.actedsize st.numsize
      (length-set B.shutat own _ ∙ st.shutsize) (length-set B.shutno own _ ∙ st.bysize) st.ringsize

  module _ (y : ℕ) (p : y + r.pins ≡ 5) (l : y ≤ 1) (z : eqb y 0 && not dll ≡ false)
      (m : may_column (get_or B.shutno own 0) (get_or B.actno own 0) (get_or t.col (y * 8 + own) 0) (cond (eqb y 0) t.floor.rd t.floor.wr) e ≡ true) where
    m1 : (ltb (get_or B.shutno own 0) (get_or B.actno own 0) ≡ true)
        × (leb (get_or t.col (y * 8 + own) 0) e && leb (cond (eqb y 0) t.floor.rd t.floor.wr) e ≡ true)
    m1 = both (ltb (get_or B.shutno own 0) (get_or B.actno own 0)) _ m

    m2 : (leb (get_or t.col (y * 8 + own) 0) e ≡ true) × (leb (cond (eqb y 0) t.floor.rd t.floor.wr) e ≡ true)
    m2 = both (leb (get_or t.col (y * 8 + own) 0) e) _ m1.1

    opened : get_or B.shutno own 0 < get_or B.actno own 0
    opened = ltb-true _ _ m1.0

    dll-is : (x : Bool) → x && not dll ≡ false → x ≡ true → dll ≡ true
    dll-is x h g = not-false dll (rw g at h)
      where
        not-false : (b : Bool) → not b ≡ false → b ≡ true
        not-false true h = refl
        not-false false h = sym h

    pub quick-column : a10 r ≡ false → Quickly C w put dll clear bytes t₀ at₀ (col_track (eqb y 0) (y * 8 + own)) (at + 6)
    quick-column o = elim (ℕ_discrete y 0) [
      | yes c ↦
          let b : eqb y 0 ≡ true = eq-eqb y 0 c in
          let i : y * 8 + own ≡ own = omega arith in
          rw (b, i)
          (more (col_track true own) refl (col-stands true own)
          (λ d k. rd-turn C w put dll clear d k bytes at t st r high before opened (omega arith) (dll-is (eqb y 0) z b) (leb-true _ _ (rw i at m2.0)) (leb-true _ _ (rw b at m2.1)) o))
      | no c ↦
          let b : eqb y 0 ≡ false = ne_eqb y 0 c in
          let i : y * 8 + own ≡ own + 8 = omega arith in
          rw (b, i)
          (more (col_track false (own + 8)) refl (col-stands false (own + 8))
          (λ d k. wr-turn C w put dll clear d k bytes at t st r high before opened (omega arith) (leb-true _ _ (rw i at m2.0)) (leb-true _ _ (rw b at m2.1)) o))
    ]

    pub quick-auto : a10 r ≡ true → Quickly C w put dll clear bytes t₀ at₀ (auto_track (eqb y 0) (y * 8 + own) (start_of_col (eqb y 0))) (at + 6)
    quick-auto o = elim (ℕ_discrete y 0) [
      | yes c ↦
          let b : eqb y 0 ≡ true = eq-eqb y 0 c in
          let i : y * 8 + own ≡ own = omega arith in
          rw (b, i)
          (more (auto_track true own (start_of_col true)) refl (auto-stands true own (start_of_col true) opened)
          (λ d k. rd-auto-turn C w put dll clear d k bytes at t st r high before opened (omega arith) (dll-is (eqb y 0) z b) (leb-true _ _ (rw i at m2.0)) (leb-true _ _ (rw b at m2.1)) o))
      | no c ↦
          let b : eqb y 0 ≡ false = ne_eqb y 0 c in
          let i : y * 8 + own ≡ own + 8 = omega arith in
          rw (b, i)
          (more (auto_track false (own + 8) (start_of_col false)) refl (auto-stands false (own + 8) (start_of_col false) opened)
          (λ d k. wr-auto-turn C w put dll clear d k bytes at t st r high before opened (omega arith) (leb-true _ _ (rw i at m2.0)) (leb-true _ _ (rw b at m2.1)) o))
    ]
