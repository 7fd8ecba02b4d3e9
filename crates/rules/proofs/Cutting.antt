-- Bytes cut between records: the records of the parts are those of the whole.
-- Assumes nothing.
use Prim.Native.Nat.{ℕ, ◌+◌, ◌%◌, ◌≤◌}
use native.Mathlib.Omega.{arith}
use mathlib.Core.Path.{◌≡◌, refl, sym, ap, ◌∙◌}
use mathlib.Core.Bool.{Bool, true, false, cond}
use mathlib.Core.List.{List, [], ◌∷◌, ◌++◌, reverse, reverse_aux}
use lib.Dec.{eqb}
use lib.ListN.{length}
use borrow.Author.Tests.{eqb-false, ne_eqb}
use Rattle.records.specs.declared.Record.{Record}
use Rattle.records.specs.Record.{records, has_zero}
use Rattle.records.proofs.Records.{records-append}
use Rattle.rules.specs.Past.{Past, number, recording}
use Rattle.rules.specs.Verdict.{Apart, Steps}
use Rattle.rules.proofs.Events.{never}

-- ── Steps ───────────────────────────────────────────────────────────────────────────────────

zero-cons : (r : Record) (rs : List Record) → has_zero (r ∷ rs) ≡ false → (1 ≤ r.step) × (has_zero rs ≡ false)
zero-cons r rs h = go (eqb r.step 0) refl h
  where
    go : (x : Bool) → eqb r.step 0 ≡ x → cond x true (has_zero rs) ≡ false → (1 ≤ r.step) × (has_zero rs ≡ false)
    go true e z = never refl z
    go false e z = (omega (arith, eqb-false r.step 0 e), z)

pub zero-append : (rs ss : List Record) → has_zero (rs ++ ss) ≡ false → (has_zero rs ≡ false) × (has_zero ss ≡ false)
zero-append [] ss h = (refl, h)
zero-append (r ∷ rs) ss h =
    let w = zero-cons r (rs ++ ss) h in
    let v = zero-append rs ss w.1 in
    (rw (ne_eqb r.step 0 (λ e. omega (arith, w.0))) v.0, v.1)

pub steps : (rs : List Record) → has_zero rs ≡ false → Steps rs
steps [] h = tt
steps (r ∷ rs) h = let w = zero-cons r rs h in (w.0, steps rs w.1)

pub apart-all : (rs : List Record) (p : Past) → Steps rs → Apart p → Apart (reverse_aux rs p)
apart-all [] p s a = a
apart-all (r ∷ rs) p s a = apart-all rs (r ∷ p) s.1 (s.0, a)

-- ── A past ──────────────────────────────────────────────────────────────────────────────────

pub reverse-append : (rs ss : List Record) (p : Past) → reverse_aux (rs ++ ss) p ≡ reverse_aux ss (reverse_aux rs p)
reverse-append [] ss p = refl
reverse-append (r ∷ rs) ss p = reverse-append rs ss (r ∷ p)

pub number-all : (rs : List Record) (p : Past) → number (reverse_aux rs p) ≡ number p + length rs
number-all [] p = omega arith
number-all (r ∷ rs) p = omega (arith, number-all rs (r ∷ p))

pub recording-append : (bs xs : List ℕ) → length bs % 6 ≡ 0 → reverse_aux (records xs) (recording bs) ≡ recording (bs ++ xs)
recording-append bs xs h = sym (reverse-append (records bs) (records xs) []) ∙ ap reverse (sym (records-append bs xs h))
