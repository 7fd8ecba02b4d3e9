-- The 20 bytes in a lent slice: by the way through the code; what a caller may rely on; one answer for each public contract.
-- Assumes nothing.
use Prim.Native.Nat.{ℕ, ◌+◌, ◌-◌, ◌<◌, ◌≤◌}
use native.Mathlib.Omega.{arith}
use mathlib.Core.List.{List, ◌++◌}
use mathlib.Core.Path.{◌≡◌, refl, sym, ap, ◌∙◌}
use lib.ListN.{length, take, drop, length-append}
use lib.Seq.{take-length, take_at, drop_at, drop-drop}
use borrow.Author.Tests.{lt-ltb, le-ltb}
use Rattle.laws.proofs.Lent.{pasted, refuses, writes, refused-keeps-all, later-bytes-kept, same_answer}
use Rattle.laws.proofs.Unique.{Unique, one_answer}
use Rattle.answers.specs.declared.Bank.{Bank}
use Rattle.answers.specs.declared.Shown.{Shown}
use Rattle.answers.specs.declared.Verdict.{Verdict}
use Rattle.answers.specs.Answer.{verdict_bytes, shown_of, status_of, row_of, act_of, Reported, ReportedBoth}
use Rattle.answers.specs.Promises.{Show, Status, ShownRow, ActEdge, VerdictBytes}

pub twenty : (v : Verdict) → length (verdict_bytes v) ≡ 20
unfolding verdict_bytes
twenty v = refl

module _ (v : Verdict) (before : List ℕ) where
  pub too_short : length before < 20 → Reported v before 9 before
  too_short h = refuses _ _ _ 9 (rw (lt-ltb _ _ h)) (λ z. omega arith)

  pub reported : (l after : List ℕ) → 20 ≤ length before → l ≡ verdict_bytes v → after ≡ take (length l) l ++ drop (length l) before
      → Reported v before 0 after
  reported l after h w copied = writes _ _ _ l after (rw (le-ltb _ _ h)) w copied

  module _ (r : ℕ) (after : List ℕ) (call : Reported v before r after) where
    pub report-refused-keeps-all : (r ≡ 0 → ⊥) → after ≡ before
    report-refused-keeps-all = refused-keeps-all _ _ _ r after call

    pub report-later-bytes-kept : drop 20 after ≡ drop 20 before
    report-later-bytes-kept = rw twenty at (later-bytes-kept _ _ _ r after call)

module _ (v w : Verdict) (before : List ℕ) where
  pub both-too-short : length before < 40 → ReportedBoth v w before 9 before
  both-too-short h = refuses _ _ _ 9 (rw (lt-ltb _ _ h)) (λ z. omega arith)

  -- the first to the front, the second behind it
  pub both-reported : (l m between : List ℕ) {part : List ℕ} → 40 ≤ length before → l ≡ verdict_bytes v → m ≡ verdict_bytes w
      → between ≡ take (length l) l ++ drop (length l) before
      → part ≡ take (length m) m ++ drop (length m) (take (length between - 20) (drop 20 between))
      → ReportedBoth v w before 0 (take 20 between ++ (part ++ drop (length between - 20) (drop 20 between)))
  both-reported l m between h a b first second = writes _ _ _ (l ++ m) _ (rw (le-ltb _ _ h)) (λ i. a i ++ b i) (pasted m between 20 second ∙ both_is)
    where
      long : length l ≡ 20
      long = ap length a ∙ twenty v

      much : length m ≡ 20
      much = ap length b ∙ twenty w

      is : between ≡ l ++ drop 20 before
      is = first ∙ (λ i. take-length l i ++ drop (long i) before)

      sizes : 40 ≡ length (l ++ m)
      sizes = omega (arith, length-append l m, long, much)

      both_is : take 20 between ++ m ++ drop (20 + length m) between ≡ take (length (l ++ m)) (l ++ m) ++ drop (length (l ++ m)) before
      both_is =
          (λ i. take 20 (is i) ++ m ++ drop (20 + much i) (is i))
          ∙ (λ i. take_at l (drop 20 before) 20 long i ++ m ++ sym (drop-drop 20 20 (l ++ drop 20 before)) i)
          ∙ ap (λ xs. l ++ m ++ drop 20 xs) (drop_at l (drop 20 before) 20 long)
          ∙ ap (λ xs. l ++ m ++ xs) (drop-drop 20 20 before)
          ∙ (λ i. sym (take-length (l ++ m)) i ++ drop (sizes i) before)

pub report-unique :
    (v : Verdict) {before after after' : List ℕ} {r r' : ℕ} → Reported v before r after → Reported v before r' after'
    → (r ≡ r') × (after ≡ after')
report-unique v one other = same_answer one other

pub both-unique :
    (v w : Verdict) {before after after' : List ℕ} {r r' : ℕ} → ReportedBoth v w before r after → ReportedBoth v w before r' after'
    → (r ≡ r') × (after ≡ after')
both-unique v w one other = same_answer one other

pub bytes-unique : (v : Verdict) → Unique (VerdictBytes v)
bytes-unique v = one_answer (verdict_bytes v)

pub show-unique : (b : Bank) → Unique (Show b)
show-unique b = one_answer (shown_of b)

pub status-unique : (b : Shown) → Unique (Status b)
status-unique b = one_answer (status_of b)

pub row-unique : (b : Shown) → Unique (ShownRow b)
row-unique b = one_answer (row_of b)

pub act-unique : (b : Shown) → Unique (ActEdge b)
act-unique b = one_answer (act_of b)
