-- Closing: what is answered at an end edge by the state as edges is what the rules say of the recording closed there.
-- Assumes nothing.
use Prim.Native.Nat.{ℕ, ◌+◌, ◌-◌, ◌*◌, ◌/◌, ◌%◌, ◌≤◌, ◌<◌}
use native.Mathlib.Nat.{div-add-mod', add-mul, mod-lt, mul-add-div_right, div-eq_of_lt}
use native.Mathlib.Omega.{arith}
use mathlib.Core.Path.{◌≡◌, refl, sym, ap, ◌∙◌}
use mathlib.Core.Bool.{Bool, true, false, cond}
use lib.Dec.{ltb}
use Rattle.laws.specs.Eight.{table}
use Rattle.laws.proofs.Eight.{table-ext}
use Rattle.answers.specs.declared.Break.{Break}
use Rattle.answers.specs.declared.Break.TheVariants.{Fine, Broken}
use Rattle.answers.specs.declared.Verdict.{Verdict}
use Rattle.answers.specs.Answer.{shown_of}
use Rattle.chip.specs.declared.Chip.{Chip}
use Rattle.running.specs.Breaks.{status_of}
use Rattle.running.specs.declared.Late.{Late}
use Rattle.running.specs.Late.{why}
use Rattle.running.specs.Said.{no_verdict, verdict_at, clean_at}
use Rattle.running.specs.Ends.{rest_of, registers_of}
use Rattle.edges.specs.Views.{kept_of, regs_of, written_of}
use Rattle.edges.specs.Ends as edges
use Rattle.edges.specs.Ends.{next_late, verdict_of, banks_at, end_of}
use Rattle.rules.specs.Past.{Past, edge, number, asleep, up_to}
use Rattle.rules.specs.Banks.{status}
use Rattle.rules.specs.Deadlines.{awake_to, owed_to, owed_at}
use Rattle.rules.specs.Verdict.{Outcome, clean, stop, broken_at, verdict_to, shown, shown_verdict, rest, answer, Apart}
use Rattle.rules.proofs.Facts.{Sound}
use Rattle.rules.proofs.Debts.{owed-at}
use Rattle.rules.proofs.Status.{status-of}
use Rattle.rules.proofs.Sense.{stays-to, stop-at, stop-after, clean-edges, earliest}
use Rattle.rules.proofs.Gap.{now_any}
use Rattle.rules.proofs.UpTo.{up-to-all, up-to-edge}
use Rattle.rules.proofs.Edges.{clean-past, gap-says, late-after, small-owed-at, small-owed, near-stay, near-ref}
use Rattle.rules.proofs.Turn.{said}
use Rattle.rules.proofs.Closing.{rest-shown, registers_in, registers-in, answer-of}
use Rattle.carries.proofs.Summary.{clocks_left, debt_of, banks_of, device_of, summary}
use Rattle.carries.proofs.Views.{kept-view, regs-view, written-view}
use Rattle.carries.proofs.Gap.{due-next}
use Rattle.carries.proofs.Whole.{frozen, carried_by, carried}
use Rattle.carries.proofs.Carrying.{carried-clean}

-- ── What is owed ────────────────────────────────────────────────────────────────────────────

-- x clocks after f of an interval, where o are owed: of the clocks that are left, each interval begun is one less
owed-left : {T : ℕ} → 0 < T → (o f x : ℕ) → o + (f + x) / T ≤ 16 → 17 - ((17 - o) * T - f - x + (T - 1)) / T ≡ o + (f + x) / T
owed-left {T} pos o f x small =
    let q = (f + x) / T in
    let e : 17 - o ≡ 17 - (o + (f + x) / T) + (f + x) / T = omega arith in
    let m : (17 - o) * T ≡ (17 - (o + (f + x) / T)) * T + (f + x) / T * T = ap (λ n. n * T) e ∙ add-mul (17 - (o + q)) q T in
    let k : 17 - (o + (f + x) / T) ≡ 17 - (o + (f + x) / T) - 1 + 1 = omega arith in
    let l : (17 - (o + (f + x) / T)) * T ≡ (17 - (o + (f + x) / T) - 1) * T + 1 * T = ap (λ n. n * T) k ∙ add-mul (17 - (o + q) - 1) 1 T in
    let w : (17 - o) * T - f - x + (T - 1) ≡ (17 - (o + (f + x) / T)) * T + (T - 1 - (f + x) % T) =
    omega (arith, div-add-mod' (f + x) T, mod-lt (f + x) pos) in
    let v : ((17 - o) * T - f - x + (T - 1)) / T ≡ 17 - (o + (f + x) / T) + (T - 1 - (f + x) % T) / T =
    ap (λ n. n / T) w ∙ mul-add-div_right pos (17 - (o + q)) (T - 1 - (f + x) % T) in
    let z : (T - 1 - (f + x) % T) / T ≡ 0 = div-eq_of_lt (omega arith) in
    omega arith

module _ (C : Chip) (pos : 0 < C.trefi) where
  owed-in : (q : Past) (u : ℕ) → edge q ≤ u → owed_at C.trefi q u ≤ 16 → edges.owed_at C (debt_of C q) u ≡ owed_at C.trefi q u
  unfolding debt_of clocks_left
  owed-in q u l small = go (asleep q) (owed-at pos q u)
    where
      T : ℕ
      T = C.trefi

      o : ℕ
      o = owed_to T q

      f : ℕ
      f = awake_to q % T

      by : (x n : ℕ) → n ≡ (17 - o) * T - f - x → owed_at T q u ≡ o + (f + x) / T → 17 - (n + (T - 1)) / T ≡ owed_at T q u
      by x n e h = ap (λ n. 17 - (n + (T - 1)) / T) e ∙ owed-left pos o f x (omega arith) ∙ sym h

      go : (s : Bool) → owed_at T q u ≡ o + (f + cond s 0 (u - edge q)) / T
          → 17 - (cond s 0 (edge q) + ((17 - o) * T - f) - cond s 0 u + (T - 1)) / T ≡ owed_at T q u
      go true h = by 0 (0 + ((17 - o) * T - f) - 0) (omega arith) h
      go false h = by (u - edge q) (edge q + ((17 - o) * T - f) - u) (omega arith) h

-- the edge at which banks, registers and debt are shown is not broken
at_rest : (C : Chip) (p : Past) (t : ℕ) (v : Outcome) → verdict_to C p t ≡ v → 0 < rest v t → broken_at C p (rest v t) ≡ clean
at_rest C p t clean z l = clean-edges C p t z t l (omega arith)
at_rest C p t (stop w n b) z l = earliest C p t w n b z (w - 1) l (omega arith)

-- ── Banks and registers ─────────────────────────────────────────────────────────────────────

module _ (C : Chip) (q : Past) where
  banks-at : (u : ℕ) → banks_at C (banks_of C q) u ≡ table (λ b. shown_of (status C b q u))
  banks-at u =
      table-ext (λ b. shown_of (status_of (kept_of C (banks_of C q) b) u)) (λ b. shown_of (status C b q u))
      (λ b l. ap shown_of (ap (λ k. status_of k u) (kept-view C q b l) ∙ status-of C b u q))

  registers-at : registers_of (regs_of (device_of C q)) (written_of (device_of C q)) ≡ registers_in C q
  registers-at = (λ i. registers_of (regs-view C q i) (written-view C q i)) ∙ registers-in C q

-- ── Closing ─────────────────────────────────────────────────────────────────────────────────

module _ (C : Chip) (S : Sound C) (p : Past) (t : ℕ) where
  -- a state that keeps the summary of the records up to the edge at which the rules look
  parts :
      (w : Verdict) (q : Past) → Apart p → verdict_of C (frozen C p q w) t ≡ shown_verdict C p t → up_to (rest (verdict_to C p t) t) p ≡ q
      → end_of C (frozen C p q w) t ≡ answer C p t
  unfolding end_of frozen
  parts w q apart says keeps =
      answer-of C p t q keeps _ says _ (ap (banks_at C (banks_of C q)) at ∙ banks-at C q u) _ (registers-at C q) _
      (ap (edges.owed_at C (debt_of C q)) at ∙ owed)
    where
      u : ℕ
      u = rest (verdict_to C p t) t

      at : rest_of (verdict_of C (frozen C p q w) t) t ≡ rest (verdict_to C p t) t
      at = ap (λ v. rest_of v t) says ∙ rest-shown (verdict_to C p t) (number p) t

      kept : edges.owed_at C (debt_of C (up_to u p)) u ≡ owed_at C.trefi (up_to u p) u
      kept = owed-in C S.refi-least (up_to u p) u (up-to-edge u p) (small-owed-at C S.refi-least p apart u (at_rest C p t (verdict_to C p t) refl))

      owed : edges.owed_at C (debt_of C q) u ≡ owed_at C.trefi q u
      owed = ap (λ x. edges.owed_at C (debt_of C x) u) (sym keeps) ∙ kept ∙ ap (λ x. owed_at C.trefi x u) keeps

  -- the edges after a clean past up to the end
  end-says : Apart p → edge p ≤ t → verdict_to C p (edge p) ≡ clean → verdict_of C (summary C p) t ≡ shown_verdict C p t
  unfolding verdict_of summary next_late device_of debt_of
  end-says apart l z =
      let e : t + 1 - 1 ≡ t = omega arith in
      let pos = S.refi-least in
      go (ltb x.at (t + 1))
      ∙ ap (λ v. shown v (number p) t)
      (sym (gap-says C p (now_any C p) (edge p) (t + 1) (t + 1) x (omega arith) (omega arith)
      (λ u a b. late-after C pos p u a) (due-next C p pos (small-owed C pos p apart z) (clean-past C p apart z) (near-stay C p apart z) (near-ref C p apart z) (t + 1)) z)
      ∙ ap (verdict_to C p) e)
    where
      x : Late
      x = next_late C (summary C p) (t + 1)

      go : (b : Bool) → cond b (verdict_at x.at 0 (why x)) (clean_at (number p) t) ≡ shown (cond b (stop x.at 0 (why x)) clean) (number p) t
      go true = refl
      go false = refl

  -- a break stays
  broken-says : (q : Past) (u n : ℕ) (b : Break) → verdict_of C (frozen C p q (said (stop u n b))) t ≡ shown (stop u n b) (number p) t
  unfolding verdict_of frozen
  broken-says q u n Fine = refl
  broken-says q u n (Broken k x m f) = refl

  summary-frozen : summary C p ≡ frozen C p p no_verdict
  unfolding summary frozen
  summary-frozen = refl

  -- after any recording
  pub end-carried : Apart p → edge p ≤ t → end_of C (carried C p) t ≡ answer C p t
  unfolding carried_by
  end-carried apart l = go (verdict_to C p (edge p)) refl
    where
      at-end : verdict_to C p (edge p) ≡ clean → (v : Outcome) → verdict_to C p t ≡ v → up_to (rest v t) p ≡ p
      at-end z clean h = up-to-all t p l
      at-end z (stop u n b) h =
          up-to-all (u - 1) p (omega (arith, stop-after C p (edge p) u n b z (stop-at C p t u n b h).1))

      go : (v : Outcome) → verdict_to C p (edge p) ≡ v → end_of C (carried_by C v p) t ≡ answer C p t
      go clean z =
          ap (λ s. end_of C s t) (carried-clean C p ∙ summary-frozen)
          ∙ parts no_verdict p apart (ap (λ s. verdict_of C s t) (sym summary-frozen) ∙ end-says apart l z) (at-end z (verdict_to C p t) refl)
      go (stop u n b) z =
          let h : verdict_to C p t ≡ stop u n b = stays-to C p (edge p) t u n b l z in
          parts (said (stop u n b)) (up_to (u - 1) p) apart
          (broken-says (up_to (u - 1) p) u n b ∙ ap (λ v. shown v (number p) t) (sym h)) (ap (λ v. up_to (rest v t) p) h)
