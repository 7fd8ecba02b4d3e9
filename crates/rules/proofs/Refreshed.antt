-- What stands between two REFs of a clean past: since its entry, or since the ACT of a bank that is not idle, there was no REF and no sleep, and
-- one awake clock at least before.
-- Assumes nothing.
use Prim.Native.Nat.{ℕ, ◌+◌, ◌≤◌, ◌<◌}
use native.Mathlib.Omega.{arith}
use mathlib.Core.Path.{◌≡◌, refl, sym, ap, ◌∙◌}
use mathlib.Core.Logic.{⊎_elim}
use mathlib.Core.Bool.{Bool, true, false, cond, not, ◌&&◌, ◌||◌}
use mathlib.Core.List.{[], ◌∷◌}
use lib.Dec.{eqb, leb}
use borrow.Author.Tests.{leb-true, le-leb}
use Rattle.laws.proofs.Both.{both}
use Rattle.answers.specs.declared.Bank.{Bank}
use Rattle.answers.specs.declared.Bank.TheVariants.{Idle, Open, Closing}
use Rattle.records.specs.declared.Record.{Record}
use Rattle.records.specs.declared.Command.{Command}
use Rattle.records.specs.declared.Command.TheVariants.{Ref, Act, Wr, Rd, Sre, Srx, Low, Bad, Pde, Pdx}
use Rattle.records.specs.Command.{by_pins, falling, rising, command_of, is_a, a10}
use Rattle.chip.specs.declared.Chip.{Chip}
use Rattle.rules.specs.Past.{Past, edge, cke, changes, asleep, command, is, on, latest}
use Rattle.rules.specs.Banks.{act_on, closes, touches, open_by, closing_by, is_idle, is_open, start, seen, status}
use Rattle.rules.specs.Rules.{concerns, may}
use Rattle.rules.specs.Down.{turned, down}
use Rattle.rules.specs.Verdict.{Apart}
use Rattle.rules.proofs.Generic.{decide}
use Rattle.rules.proofs.Events.{never}
use Rattle.rules.proofs.Clean.{Clean, clean-tail, not-bad, allowed, is-command, is-other, ClosedBy, by-pre, by-rd, by-wr, closing-by}
use Rattle.rules.proofs.Sleeping.{high-awake, sleeps-on}
use Rattle.rules.proofs.Starts.{start-pre}
use Rattle.rules.proofs.Down.{low-is, low-in}
use Rattle.rules.proofs.Debts.{gap_to, gap_step}

-- since the event s no REF came, one awake clock at least had passed before it since the last, and the part is awake
abbrev pub Unrefreshed : (p s : Past) → Type 0
Unrefreshed p s = (edge p + 1 ≤ edge s + gap_to p) × (asleep p ≡ false)

-- another record, which is no REF and at which the part is awake
gap-on : (r : Record) (p : Past) → is Ref (r ∷ p) ≡ false → asleep p ≡ false → gap_to (r ∷ p) ≡ gap_to p + r.step
gap-on r p n a = sym (gap_step r p) ∙ rw (n, a)

began : (r : Record) (p : Past) → 1 ≤ r.step → is Ref (r ∷ p) ≡ false → asleep p ≡ false → asleep (r ∷ p) ≡ false → Unrefreshed (r ∷ p) (r ∷ p)
began r p far n a z = let g = gap-on r p n a in (omega arith, z)

goes_on : (r : Record) (p s : Past) → is Ref (r ∷ p) ≡ false → asleep (r ∷ p) ≡ false → Unrefreshed p s → Unrefreshed (r ∷ p) s
goes_on r p s n z u = let g = gap-on r p n u.1 in (omega (arith, u.0), z)

module _ (C : Chip) where
  -- ── A power-down ──────────────────────────────────────────────────────────────────────────

  fell : (b k : Bool) → cond b (not k) k ≡ true → k ≡ false → b ≡ true
  fell true k h z = refl
  fell false true h z = never refl z
  fell false false h z = h

  pub down-unrefreshed : (p : Past) → Apart p → Clean C p → down p ≡ true → Unrefreshed p (turned p)
  down-unrefreshed [] apart h y = never y refl
  down-unrefreshed (r ∷ p) apart h y = ⊎_elim
      (λ (c : changes (r ∷ p) ≡ true).
      let pde : is Pde (r ∷ p) ≡ true = rw c at y in
      let l = low-in C (r ∷ p) h y in
      rw c (began r p apart.0 (is-other Pde Ref (r ∷ p) (λ z. omega arith) pde) (high-awake p (fell (cke p) r.cke c l.0)) l.1))
      (λ (n : changes (r ∷ p) ≡ false).
      let d : down p ≡ true = rw n at y in
      let k = clean-tail C r p h in
      let l = low-in C p k d in
      let low : command (r ∷ p) ≡ Low = low-is r p l.0 n in
      rw n (goes_on r p (turned p) (rw low) (low-in C (r ∷ p) h y).1 (down-unrefreshed p apart.1 k d)))
      (decide (changes (r ∷ p)))

  -- ── A bank that is not idle ───────────────────────────────────────────────────────────────

  -- an idle bank stays idle
  idle-stays : (b : ℕ) (s : Past) (e u : ℕ) → e ≤ u → is_idle (seen C b s u) ≡ false → is_idle (seen C b s e) ≡ false
  unfolding seen
  idle-stays b [] e u l h = h
  idle-stays b (r ∷ p) e u l h = go (closes b (r ∷ p)) (leb (start C (r ∷ p)) e) refl (leb (start C (r ∷ p)) u) refl h
    where
      go : (x y : Bool) → leb (start C (r ∷ p)) e ≡ y → (z : Bool) → leb (start C (r ∷ p)) u ≡ z
          → is_idle (cond x (cond z Idle (closing_by (latest (act_on b) p))) (open_by (r ∷ p))) ≡ false
          → is_idle (cond x (cond y Idle (closing_by (latest (act_on b) p))) (open_by (r ∷ p))) ≡ false
      go false y v z w k = refl
      go true false v z w k = refl
      go true true v true w k = k
      go true true v false w k = never (le-leb (start C (r ∷ p)) u (omega (arith, leb-true (start C (r ∷ p)) e v))) w

  -- an ACT comes with CKE high before and now
  act-high : (r : Record) (p : Past) → is Act (r ∷ p) ≡ true → (cke p ≡ true) × (r.cke ≡ true)
  unfolding command_of falling rising
  act-high r p y = go (cke p) r.cke (eqb r.pins 1) (leb 7 r.pins) (asleep p) y
    where
      go : (b k x z s : Bool) → is_a Act (cond b (cond k (by_pins r.pins) (cond x Sre (cond z Pde Bad))) (cond k (cond z (cond s Srx Pdx) Bad) Low)) ≡ true → (b ≡ true) × (k ≡ true)
      go true true x z s h = (refl, refl)
      go true false true z s h = never h refl
      go true false false true s h = never h refl
      go true false false false s h = never h refl
      go false true x true true h = never h refl
      go false true x true false h = never h refl
      go false true x false s h = never h refl
      go false false x z s h = never h refl

  open-busy : (k : Bank) → is_open k ≡ true → is_idle k ≡ false
  open-busy Idle y = sym y
  open-busy (Open a n w) y = refl
  open-busy (Closing a n w) y = refl

  module _ (b : ℕ) (small : b < 8) (r : Record) (p : Past) (h : Clean C (r ∷ p)) where
    abbrev e : ℕ
    e = edge (r ∷ p)

    -- a command of all banks finds it idle
    asks-idle : (c : Command) → ((a o : Bool) → concerns c a o ≡ true) → ((k : Bank) → may c k ≡ is_idle k) → is_idle (status C b p e) ≡ false
        → is c (r ∷ p) ≡ false
    asks-idle c all idle busy = ⊎_elim
        (λ (y : is c (r ∷ p) ≡ true).
        let q = is-command c r p y in
        let m = allowed C r p h b small (ap (λ d. concerns d (a10 r) (on b (r ∷ p))) q ∙ all (a10 r) (on b (r ∷ p))) in
        never (sym (idle (status C b p e)) ∙ ap (λ d. may d (status C b p e)) (sym q) ∙ m) busy)
        (λ (n : is c (r ∷ p) ≡ false). n)
        (decide (is c (r ∷ p)))

    -- a RD or WR that closes it found it open
    closing-busy : (u : ℕ) → e ≤ u → closes b (r ∷ p) ≡ true → is_idle (seen C b (r ∷ p) u) ≡ false → is_idle (status C b p e) ≡ false
    unfolding seen
    closing-busy u l y busy = go (closing-by b (r ∷ p) y)
      where
        column : (c : Command) → is c (r ∷ p) ≡ true → concerns c (a10 r) (on b (r ∷ p)) ≡ true → ((k : Bank) → may c k ≡ is_open k) → is_idle (status C b p e) ≡ false
        column c a o opens =
            let q = is-command c r p a in
            let m = allowed C r p h b small (ap (λ d. concerns d (a10 r) (on b (r ∷ p))) q ∙ o) in
            open-busy (status C b p e) (sym (opens (status C b p e)) ∙ ap (λ d. may d (status C b p e)) (sym q) ∙ m)

        go : ClosedBy b (r ∷ p) → is_idle (status C b p e) ≡ false
        go (by-pre a o) =
            let s : start C (r ∷ p) ≡ edge (r ∷ p) = start-pre C (r ∷ p) a in
            never refl (rw (y, le-leb (start C (r ∷ p)) u (omega (arith, s))) at busy)
        go (by-rd a o) = column Rd a o (λ k. refl)
        go (by-wr a o) = column Wr a o (λ k. refl)

  -- at an edge u not before the latest record
  pub busy-unrefreshed : (b : ℕ) → b < 8 → (p : Past) → Apart p → Clean C p → (u : ℕ) → edge p ≤ u → is_idle (status C b p u) ≡ false → Unrefreshed p (latest (act_on b) p)
  unfolding seen
  busy-unrefreshed b small [] apart h u l busy = never refl busy
  busy-unrefreshed b small (r ∷ p) apart h u l busy = ⊎_elim
      (λ (y : act_on b (r ∷ p) ≡ true).
      let act = (both (is Act (r ∷ p)) (on b (r ∷ p)) y).0 in
      let high = act-high r p act in
      rw y (began r p apart.0 (is-other Act Ref (r ∷ p) (λ z. omega arith) act) (high-awake p high.0) (high-awake (r ∷ p) high.1)))
      (λ (n : act_on b (r ∷ p) ≡ false).
      let k = clean-tail C r p h in
      let was : is_idle (status C b p (edge (r ∷ p))) ≡ false = before n in
      let old = busy-unrefreshed b small p apart.1 k (edge (r ∷ p)) (omega arith) was in
      let noref = asks-idle b small r p h Ref (λ a o. refl) (λ k. refl) was in
      let nosre = asks-idle b small r p h Sre (λ a o. refl) (λ k. refl) was in
      rw n (goes_on r p (latest (act_on b) p) noref (sleeps-on r p (not-bad C r p h) ∙ awake (is Sre (r ∷ p)) (is Srx (r ∷ p)) (asleep p) nosre old.1) old))
      (decide (act_on b (r ∷ p)))
    where
      awake : (x y z : Bool) → x ≡ false → z ≡ false → x || (not y && z) ≡ false
      awake x true z i j = rw i
      awake x false z i j = rw (i, j)

      before : act_on b (r ∷ p) ≡ false → is_idle (status C b p (edge (r ∷ p))) ≡ false
      before n = ⊎_elim
          (λ (y : closes b (r ∷ p) ≡ true). closing-busy b small r p h u l y (rw (n, y) at busy))
          (λ (z : closes b (r ∷ p) ≡ false). idle-stays b (latest (touches b) p) (edge (r ∷ p)) u l (rw (n, z) at busy))
          (decide (closes b (r ∷ p)))
