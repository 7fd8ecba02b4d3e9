-- Rules 24, 25, 28 and 31 over a gap: the judge's soonest deadline is the first edge after the latest record at which a deadline passes.
-- Assumes nothing.
use Prim.Native.Nat.{ℕ, zero, suc, ◌+◌, ◌-◌, ◌*◌, ◌/◌, ◌%◌, ◌≤◌, ◌<◌}
use native.Mathlib.Nat.{mod-lt}
use native.Mathlib.Omega.{arith}
use native.Mathlib.Decide.{ℕ_discrete}
use mathlib.Core.Path.{◌≡◌, refl, sym, ap, ◌∙◌, subst}
use mathlib.Core.Logic.{⊎_elim}
use mathlib.Core.Bool.{Bool, true, false, cond, not, ◌&&◌, ◌||◌, true≢false}
use lib.Dec.{ltb, leb}
use borrow.Author.Tests.{ltb-true, ltb-false, leb-true, leb-false, le-leb, lt-leb, lt-ltb, le-ltb, eq-eqb, ne_eqb}
use Rattle.laws.specs.Eight.{table}
use Rattle.laws.proofs.Eight.{get_or-table}
use Rattle.answers.specs.declared.Break.{Break}
use Rattle.answers.specs.declared.Break.TheVariants.{Fine, Broken}
use Rattle.records.specs.declared.Command.TheVariants.{Ref}
use Rattle.chip.specs.declared.Chip.{Chip}
use Rattle.running.specs.Marks.{empty}
use Rattle.running.specs.declared.Late.{Late}
use Rattle.running.specs.declared.Pick.{Pick}
use Rattle.running.specs.Next.{due}
use Rattle.running.specs.Late.{better, soonest, why, sooner, late_by}
use Rattle.running.specs.Deadlines.{next24, next25, next28, next31, owing}
use Rattle.rules.specs.Past.{Past, edge, number, cke, asleep, is, latest, up_to}
use Rattle.answers.specs.Answer.{or_else, lowest}
use Rattle.rules.specs.Banks.{status}
use Rattle.rules.specs.Deadlines.{late, stayed, parted, rule24, rule25, rule28, rule31, awake_to, owed_to, owed_at, since_ref}
use Rattle.rules.specs.Down.{turned, down}
use Rattle.rules.proofs.Generic.{decide}
use Rattle.rules.proofs.Clean.{lowest-ext}
use Rattle.rules.proofs.Debts.{debt_of, gap_to, reaches, ahead, owed-at, since_at}
use Rattle.rules.proofs.Summary.{mark-at, kept, rests, shared, summary}
use Rattle.rules.proofs.Status.{mark-num, status-of, late_now, late-now}

-- ── The soonest of the banks ────────────────────────────────────────────────────────────────

-- what the fold over the banks below n has found; f gives their due edges
record Found (f : ℕ → ℕ) (lo hi n : ℕ) (k : Pick) : Type 0 where
  within : k.at ≤ hi
  least : (b : ℕ) → b < n → lo < f b → k.at ≤ f b
  before : (b : ℕ) → b < k.bank → lo < f b → k.at < f b
  real : k.at < hi → (lo < k.at) × (k.bank < n) × (f k.bank ≡ k.at)

better-is :
    (lo d b : ℕ) (k : Pick) (P : Pick → Type 0) → (lo < d → d < k.at → P (record { at = d; bank = b })) → ((lo < d → k.at ≤ d) → P k)
    → P (better lo d b k)
unfolding better
better-is lo d b k P f g = go (ltb lo d) refl (ltb d k.at) refl
  where
    go : (x : Bool) → ltb lo d ≡ x → (y : Bool) → ltb d k.at ≡ y → P (cond (x && y) (record { at = d; bank = b }) k)
    go true u true v = f (ltb-true lo d u) (ltb-true d k.at v)
    go true u false v = g (λ _. ltb-false d k.at v)
    go false u y v = g (λ l. omega (arith, ltb-false lo d u))

module _ (f : ℕ → ℕ) (lo hi : ℕ) where
  next-bank : (n : ℕ) (P : ℕ → Type 0) → ((b : ℕ) → b < n → P b) → P n → (b : ℕ) → b < suc n → P b
  next-bank n P g z b l = elim (ℕ_discrete b n) [ yes q ↦ subst P (sym q) z | no q ↦ g b (omega arith) ]

  step-found : (n : ℕ) (k : Pick) → Found f lo hi n k → Found f lo hi (suc n) (better lo (f n) n k)
  step-found n k w =
      better-is lo (f n) n k (Found f lo hi (suc n))
      (λ l m. record {
        within = omega arith;
        least = next-bank n (λ b. lo < f b → f n ≤ f b) (λ b g x. omega (arith, w.least b g x)) (λ x. omega arith);
        before = λ b g x. omega (arith, w.least b g x);
        real = λ _. (l, omega arith, refl);
      })
      (λ m. record {
        within = w.within;
        least = next-bank n (λ b. lo < f b → k.at ≤ f b) w.least m;
        before = w.before;
        real = λ x. ((w.real x).0, omega (arith, (w.real x).1), (w.real x).2);
      })

  found : (n : ℕ) → n ≤ 8 → Found f lo hi n (soonest (table f) lo hi n)
  unfolding soonest
  found zero l = record { within = omega arith; least = λ b g x. omega arith; before = λ b g x. omega arith; real = λ x. omega arith }
  found (suc n) l = rw (get_or-table f n 0 l) (step-found n (soonest (table f) lo hi n) (found n (omega arith)))

lowest-none : (f : ℕ → Break) (n : ℕ) → ((b : ℕ) → b < n → f b ≡ Fine) → lowest f n ≡ Fine
unfolding lowest or_else
lowest-none f zero h = refl
lowest-none f (suc n) h = rw (lowest-none f n (λ b l. h b (omega arith)), h n (omega arith))

broken-stays : (k n m f : ℕ) (b c : Break) → b ≡ Broken k n m f → or_else b c ≡ Broken k n m f
unfolding or_else
broken-stays k n m f b c h = rw h

lowest-first :
    (f : ℕ → Break) (n b : ℕ) → b < n → (k x m y : ℕ) → f b ≡ Broken k x m y → ((c : ℕ) → c < b → f c ≡ Fine) → lowest f n ≡ Broken k x m y
unfolding lowest or_else
lowest-first f zero b l k x m y h g = absurd (omega arith)
lowest-first f (suc n) b l k x m y h g = elim (ℕ_discrete b n) [
  | yes q ↦ rw (lowest-none f n (λ c z. g c (omega arith)), ← q, h)
  | no q ↦ broken-stays k x m y _ _ (lowest-first f n b (omega arith) k x m y h g)
]

-- ── A deadline ──────────────────────────────────────────────────────────────────────────────

-- what `late` says after lo and before hi: nothing before the edge of x, and there what x says
pub record Due (late : ℕ → Break) (lo hi : ℕ) (x : Late) : Type 0 where
  pub none : (t : ℕ) → lo < t → t < hi → t < x.at → late t ≡ Fine
  pub hit : x.at < hi → (lo < x.at) × (late x.at ≡ why x)

-- two deadlines: the sooner of both, of equals the first
pub due-both : (f g : ℕ → Break) (lo hi : ℕ) (x y : Late) → Due f lo hi x → Due g lo hi y → Due (λ t. or_else (f t) (g t)) lo hi (sooner x y)
unfolding sooner or_else
due-both f g lo hi x y d e = ⊎_elim
    (λ (u : leb x.at y.at ≡ true).
    let l : x.at ≤ y.at = leb-true _ _ u in
    rw u (record {
      none = λ t a b c. rw (d.none t a b c, e.none t a b (omega arith));
      hit = λ m. ((d.hit m).0, broken-stays _ _ _ _ (f x.at) (g x.at) (d.hit m).1);
    }))
    (λ (u : leb x.at y.at ≡ false).
    let l : y.at < x.at = leb-false _ _ u in
    rw u (record {
      none = λ t a b c. rw (d.none t a b (omega arith), e.none t a b c);
      hit = λ m. ((e.hit m).0, rw (d.none y.at (e.hit m).0 m l) (e.hit m).1);
    }))
    (decide (leb x.at y.at))

-- ── After the past p ────────────────────────────────────────────────────────────────────────

module _ (C : Chip) (p : Past) where
  -- rules 24, 25, 28 and 31 at an edge t after p, from what is kept
  abbrev pub now24 : ℕ → Break
  now24 t = lowest (λ b. late_now C (kept C p b) t) 8

  abbrev pub now25 : ℕ → Break
  now25 t = owing (owed_to C.trefi p + (awake_to p % C.trefi + cond (asleep p) 0 (t - edge p)) / C.trefi) (number (latest (is Ref) p))

  -- of a recording q that goes on from p not before t
  pub late24-at : (q : Past) (t : ℕ) → edge p < t → up_to (t - 1) q ≡ p → rule24 C q t ≡ now24 t
  late24-at q t l h = lowest-ext _ _ 8 (λ b z.
      ap (λ u. late C.most (status C b u (t - 1)) t) h
      ∙ ap (λ k. late C.most k t) (sym (status-of C b (t - 1) p))
      ∙ late-now C (kept C p b) t (omega arith))

  pub late25-at : 0 < C.trefi → (q : Past) (t : ℕ) → up_to t q ≡ p → rule25 C q t ≡ now25 t
  late25-at z q t h =
      ap (λ u. owing (owed_at C.trefi u t) (number (latest (is Ref) u))) h
      ∙ ap (λ o. owing o (number (latest (is Ref) p))) (owed-at z p t)

  abbrev pub now28 : ℕ → Break
  now28 t = stayed C.nine (turned p) t

  pub late28-at : (q : Past) (t : ℕ) → up_to (t - 1) q ≡ p → rule28 C q t ≡ now28 t
  late28-at q t h = ap (λ u. stayed C.nine (turned u) t) h

  abbrev pub now31 : ℕ → Break
  now31 t = parted C.nine p t

  pub late31-at : (q : Past) (t : ℕ) → up_to (t - 1) q ≡ p → rule31 C q t ≡ now31 t
  late31-at q t h = ap (λ u. parted C.nine u t) h

  -- all four, by number
  abbrev pub now_any : ℕ → Break
  now_any t = or_else (now24 t) (or_else (now25 t) (or_else (now28 t) (now31 t)))

  abbrev dues : ℕ → ℕ
  dues b = due C (kept C p b)

  -- rule 24 after the latest record
  pub due24 : (hi : ℕ) → Due now24 (edge p) hi (next24 C (summary C p) hi)
  unfolding next24 summary
  due24 hi =
      let f = found dues (edge p) hi 8 (omega arith) in
      let k = soonest (table dues) (edge p) hi 8 in
      record {
        none = λ t l h m. lowest-none _ 8 (λ b z. rw (ne_eqb (dues b) t (λ e. omega (arith, f.least b z (omega arith)))));
        hit = λ m.
            let w = f.real m in (
              w.0,
              lowest-first _ 8 k.bank w.1 _ _ _ _ (rw (eq-eqb (dues k.bank) k.at w.2, get_or-table (kept C p) k.bank empty w.1))
                  (λ c z. rw (ne_eqb (dues c) k.at (λ e. omega (arith, f.before c z (omega arith))))),
            );
      }

  -- rule 28 after the latest record, up to which the stay was not too long
  module _ (is_down : down p ≡ not (cke p || asleep p)) (near : down p ≡ true → edge p ≤ edge (turned p) + C.nine) where
    pub due28 : (hi : ℕ) → Due now28 (edge p) hi (next28 C (summary C p) hi)
    unfolding next28 summary shared rests debt_of
    due28 hi = rw (mark-num (λ _. C.tcke) (turned p), mark-at (λ _. C.tcke) (turned p)) (go (down p) refl (cke p || asleep p) is_down)
      where
        at : ℕ
        at = edge (turned p) + C.nine + 1

        late : (u : ℕ) → Late
        late u = late_by 28 u (number (turned p)) C.nine

        go : (d : Bool) → down p ≡ d → (x : Bool) → d ≡ not x → Due now28 (edge p) hi (late (cond x hi at))
        go true y true e = absurd (true≢false e)
        go true y false e = record {
          none = λ t a b c. rw (y, ne_eqb (edge (turned p) + C.nine + 1) t (λ w. omega arith));
          hit = λ m. (omega (arith, near y), rw (y, eq-eqb (edge (turned p) + C.nine + 1) (edge (turned p) + C.nine + 1) refl));
        }
        go false n true e = record { none = λ t a b c. rw n; hit = λ m. absurd (omega arith) }
        go false n false e = absurd (true≢false (sym e))

  -- rule 31 after the latest record, up to which the last REF was not too far back
  pub due31 : gap_to p ≤ C.nine → (hi : ℕ) → Due now31 (edge p) hi (next31 C (summary C p) hi)
  unfolding next31 summary shared rests debt_of
  due31 near hi = rw (mark-num (λ _. C.trfc) (latest (is Ref) p)) (go (asleep p) refl)
    where
      n : ℕ
      n = number (latest (is Ref) p)

      kept_fine : (t x : ℕ) → since_ref p t ≡ x → x ≤ C.nine → now31 t ≡ Fine
      kept_fine t x e l = rw (e, le-ltb C.nine x l)

      go : (s : Bool) → asleep p ≡ s → Due now31 (edge p) hi (late_by 31 (cond s hi (edge p + (C.nine + 1 - gap_to p))) n C.nine)
      go true y = record { none = λ t a b c. kept_fine t (gap_to p + 0) (since_at p t ∙ rw y) (omega arith); hit = λ m. absurd (omega arith) }
      go false y =
          let at = edge p + (C.nine + 1 - gap_to p) in
          record {
            none = λ t a b c. kept_fine t (gap_to p + (t - edge p)) (since_at p t ∙ rw y) (omega arith);
            hit = λ m. (omega arith, rw (since_at p (edge p + (C.nine + 1 - gap_to p)), y, lt-ltb C.nine (gap_to p + (at - edge p)) (omega arith)));
          }

  module _ (z : 0 < C.trefi) (small : owed_to C.trefi p ≤ 16) where
    abbrev T : ℕ
    T = C.trefi

    abbrev o : ℕ
    o = owed_to T p

    abbrev f : ℕ
    f = awake_to p % T

    owing-none : (x n : ℕ) → f + x < (17 - o) * T → owing (o + (f + x) / T) n ≡ Fine
    owing-none x n l = rw (lt-leb 17 (o + (f + x) / T) (omega (arith, not_yet)))
      where
        not_yet : ¬ (17 ≤ o + (f + x) / T)
        not_yet g = omega (arith, (reaches z o f x small).0 g)

    owing-hit : (x n : ℕ) → (17 - o) * T ≤ f + x → owing (o + (f + x) / T) n ≡ Broken 25 n 8 9
    owing-hit x n l = rw (le-leb 17 (o + (f + x) / T) ((reaches z o f x small).1 l))

    -- rule 25 after the latest record
    pub due25 : (hi : ℕ) → Due now25 (edge p) hi (next25 C (summary C p) hi)
    unfolding next25 summary shared rests debt_of
    due25 hi = rw (mark-num (λ _. C.trfc) (latest (is Ref) p)) (go (asleep p))
      where
        far : f < (17 - o) * T
        far = ahead z o f small (mod-lt (awake_to p) z)

        n : ℕ
        n = number (latest (is Ref) p)

        go :
            (x : Bool) → Due (λ t. owing (o + (f + cond x 0 (t - edge p)) / T) n) (edge p) hi
            (record { at = cond x hi (edge p + ((17 - o) * T - f)); rule = 25; partner = n; needed = 8; found = 9 })
        go true = record { none = λ t a b c. owing-none 0 _ (omega (arith, far)); hit = λ m. absurd (omega arith) }
        go false = record {
          none = λ t a b c. owing-none (t - edge p) _ (omega (arith, far));
          hit = λ m. (omega (arith, far), owing-hit (edge p + ((17 - o) * T - f) - edge p) _ (omega (arith, far)));
        }
