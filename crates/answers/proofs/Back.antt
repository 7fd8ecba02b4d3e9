-- A verdict whose numbers fit their bits is read back from its bytes, whatever stands behind them; so its bytes tell it.
-- Assumes nothing.
use Prim.Native.Nat.{ℕ, ◌+◌, ◌*◌, ◌/◌, ◌%◌, ◌<◌}
use native.Mathlib.Nat.{div-add-mod', div-div-eq-div-mul}
use native.Mathlib.Omega.{arith}
use mathlib.Core.List.{List, [], ◌++◌}
use mathlib.Core.Path.{◌≡◌, sym, ap, ◌∙◌}
use Rattle.answers.specs.declared.Verdict.{Verdict}
use Rattle.answers.specs.Answer.{verdict_bytes}
use Rattle.answers.specs.Back.{verdict_in, Fits}

back1 : (n : ℕ) → n < 256 → n % 256 ≡ n
back1 n l = omega arith

back3 : (n : ℕ) → n < 16777216 → n / 65536 % 256 * 65536 + n / 256 % 256 * 256 + n % 256 ≡ n
back3 n l = omega arith

low3 : (n : ℕ) → n / 65536 % 256 * 65536 + n / 256 % 256 * 256 + n % 256 ≡ n % 16777216
low3 n = omega arith

high3 : (n : ℕ) → n < 281474976710656 → n / 1099511627776 % 256 * 65536 + n / 4294967296 % 256 * 256 + n / 16777216 % 256 ≡ n / 16777216
high3 n l =
    rw (← div-div-eq-div-mul n 16777216 65536, ← div-div-eq-div-mul n 16777216 256) (back3 (n / 16777216) (omega arith))

back6 : (n : ℕ) → n < 281474976710656
    → (n / 1099511627776 % 256 * 65536 + n / 4294967296 % 256 * 256 + n / 16777216 % 256) * 16777216
    + (n / 65536 % 256 * 65536 + n / 256 % 256 * 256 + n % 256)
    ≡ n
back6 n l = rw (high3 n l, low3 n) (div-add-mod' n 16777216)

pub read_back : (v : Verdict) (later : List ℕ) → Fits v → verdict_in (verdict_bytes v ++ later) ≡ v
unfolding verdict_in verdict_bytes
read_back v later f = λ i.
    record {
      outcome = back1 v.outcome f.outcome_fits i;
      rule = back1 v.rule f.rule_fits i;
      number = back3 v.number f.number_fits i;
      partner = back3 v.partner f.partner-fits i;
      edge = back6 v.edge f.edge-fits i;
      needed = back3 v.needed f.needed-fits i;
      found = back3 v.found f.found-fits i;
    }

-- "A verdict is written in 20 bytes": two that fit and have the same bytes are the same
pub bytes-tell : (v w : Verdict) → Fits v → Fits w → verdict_bytes v ≡ verdict_bytes w → v ≡ w
bytes-tell v w f g e = sym (read_back v [] f) ∙ ap (λ (bs : List ℕ). verdict_in (bs ++ [])) e ∙ read_back w [] g
