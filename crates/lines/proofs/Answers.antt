-- One answer for each public contract: of a line, and of the lent bytes that it is put in.
-- Assumes nothing.
use Prim.Native.Nat.{ℕ}
use mathlib.Core.Path.{◌≡◌}
use mathlib.Core.List.{List, ◌++◌}
use lib.ListN.{length, drop}
use Rattle.laws.proofs.Unique.{one_answer}
use Rattle.answers.specs.declared.Verdict.{Verdict}
use Rattle.lines.specs.Line.{Printed}
use Rattle.lines.specs.Promises.{Line, VerdictLine, RefusalLine, VerdictWords}

pub same_line :
    {text before after after' : List ℕ} {r r' : ℕ} → Printed text before r after → Printed text before r' after'
    → (r ≡ r') × (after ≡ after')
same_line {text} {before} {after} {after'} {r} {r'} one other = (
  one_answer (length text) r r' one.count other.count,
  one_answer (text ++ drop (length text) before) after after' one.out other.out,
)

module _ {before after after' : List ℕ} {r r' : ℕ} where
  pub line-unique : {text : List ℕ} → Line text before r after → Line text before r' after' → (r ≡ r') × (after ≡ after')
  line-unique one other = same_line one.1 other.1

  pub verdict-line-unique : (v : Verdict) → VerdictLine v before r after → VerdictLine v before r' after' → (r ≡ r') × (after ≡ after')
  verdict-line-unique v one other = line-unique one other

  pub refusal-line-unique : (n : ℕ) → RefusalLine n before r after → RefusalLine n before r' after' → (r ≡ r') × (after ≡ after')
  refusal-line-unique n one other = line-unique one other

  pub verdict-words-unique : (v : Verdict) → VerdictWords v before r after → VerdictWords v before r' after' → (r ≡ r') × (after ≡ after')
  verdict-words-unique v one other = same_line one.1.1 other.1.1
