-- What a C caller receives is the rules' verdict: each number fits its bytes, and the bytes mean what `Meaning` says.
-- Assumes nothing.
use Prim.Native.Nat.{ℕ}
use native.Mathlib.Omega.{arith}
use mathlib.Core.Path.{◌≡◌, refl, sym, ap, ◌∙◌}
use mathlib.Core.Bool.{Bool, true, false, cond}
use mathlib.Core.List.{List, ◌++◌, append_assoc}
use lib.Dec.{eqb, ltb}
use lib.ListN.{length, get_or, drop}
use lib.Seq.{drop_at}
use borrow.Author.Tests.{eq-eqb}
use Rattle.laws.proofs.Lent.{success-writes}
use Rattle.answers.specs.declared.Break.TheVariants.{Fine, Broken}
use Rattle.header.specs.Bytes.{edition_for}
use Rattle.answers.specs.declared.Verdict.{Verdict}
use Rattle.answers.specs.Answer.{verdict_bytes}
use Rattle.answers.proofs.Answers.{twenty}
use Rattle.answers.specs.Back.{verdict_in, Fits}
use Rattle.answers.proofs.Back.{read_back}
use Rattle.rules.specs.Past.{number}
use Rattle.rules.specs.Verdict.{Outcome, clean, stop, verdict_to, shown, Apart}
use Rattle.sections.specs.Recording.{past, whole_refusal, needed, judge_code, whole_verdict}
use Rattle.sections.proofs.Recordings.{good}
use Rattle.means.proofs.Means.{clean-means, broken-means, never-fine}
use Rattle.means.proofs.Fitting.{shown-fits}
use Rattle.firmware.specs.Calls.{answer_bytes, Judge}
use Rattle.firmware.specs.Meaning.{part, Meaning}

-- "A verdict is written in 20 bytes": each number of the verdict on a recording that is not refused fits its bits
pub verdict-fits : (second : Bool) (bs : List ℕ) (end : ℕ) → whole_refusal bs end ≡ 0 → Fits (whole_verdict second bs end)
unfolding whole_verdict
verdict-fits second bs end h =
    let g = good bs end h in shown-fits _ g.least (past second bs) (g.apart second) (g.few second) end g.near

-- a call that answers 0 had room for the verdict, and the recording was not refused
not-refused : (bs : List ℕ) (end room : ℕ) → judge_code bs end room ≡ 0 → whole_refusal bs end ≡ 0
unfolding judge_code
not-refused bs end room h = go (ltb room (needed bs)) h
  where
    go : (x : Bool) → cond x 9 (whole_refusal bs end) ≡ 0 → whole_refusal bs end ≡ 0
    go true e = absurd (omega arith)
    go false e = e

-- byte 0 is the outcome
byte : (bytes : List ℕ) (v : Verdict) → verdict_in bytes ≡ v → get_or bytes 0 0 ≡ v.outcome
unfolding verdict_in
byte bytes v e = ap (λ (w : Verdict). w.outcome) e

-- a verdict that is read back means what its outcome means
meant : (second : Bool) (bs : List ℕ) (end : ℕ) → whole_refusal bs end ≡ 0 → (bytes : List ℕ) → verdict_in bytes ≡ whole_verdict second bs end
    → Meaning second bs end bytes
unfolding whole_verdict
meant second bs end h bytes e = go ((good bs end h).apart second) (verdict_to (part bs) (past second bs) end) refl e
  where
    go : Apart (past second bs) → (o : Outcome) → verdict_to (part bs) (past second bs) end ≡ o → verdict_in bytes ≡ shown o (number (past second bs)) end → Meaning second bs end bytes
    go apart clean c b =
        let zero : get_or bytes 0 0 ≡ 0 = byte bytes _ b in
        record {
          clean = (λ _. (clean-means (part bs) (past second bs) apart end).0 c, λ _. zero);
          clean-fields = λ _. b;
          broken = λ n. absurd (n zero);
        }
    go apart (stop t n Fine) c b = absurd (never-fine (part bs) (past second bs) apart end t n c)
    go apart (stop t n (Broken k x m f)) c b =
        let one : get_or bytes 0 0 ≡ 1 = byte bytes _ b in
        let w = broken-means (part bs) (past second bs) apart end t n k x m f c in
        record {
          clean = (
            λ z. absurd (omega arith),
            λ none. absurd (none t k (omega (arith, w.from_one)) w.to_end w.broken),
          );
          clean-fields = λ z. absurd (omega arith);
          broken = λ _. rw b w;
        }

-- the first rank's verdict stands in front, in edition 2 the second's behind it
module _ (bs : List ℕ) (end : ℕ) (before : List ℕ) (r : ℕ) (after : List ℕ) (call : Judge bs end before r after) (z : r ≡ 0) where
  taken : whole_refusal bs end ≡ 0
  taken = not-refused bs end (length before) (sym call.result ∙ z)

  wrote : after ≡ answer_bytes bs end ++ drop (length (answer_bytes bs end)) before
  wrote = success-writes _ _ _ r after call z

  pub judge-means : Meaning false bs end after
  unfolding answer_bytes
  judge-means = meant false bs end taken after (go (eqb (edition_for bs) 2) wrote)
    where
      first : List ℕ
      first = verdict_bytes (whole_verdict false bs end)

      go : (x : Bool) → after ≡ cond x (first ++ verdict_bytes (whole_verdict true bs end)) first ++ drop (length (cond x (first ++ verdict_bytes (whole_verdict true bs end)) first)) before
          → verdict_in after ≡ whole_verdict false bs end
      go true w =
          ap verdict_in (w ∙ append_assoc first (verdict_bytes (whole_verdict true bs end)) _) ∙ read_back (whole_verdict false bs end) _ (verdict-fits false bs end taken)
      go false w = ap verdict_in w ∙ read_back (whole_verdict false bs end) _ (verdict-fits false bs end taken)

  pub judge-means-second : edition_for bs ≡ 2 → Meaning true bs end (drop 20 after)
  unfolding answer_bytes
  judge-means-second two = meant true bs end taken (drop 20 after) (ap verdict_in behind ∙ read_back (whole_verdict true bs end) _ (verdict-fits true bs end taken))
    where
      one : List ℕ
      one = verdict_bytes (whole_verdict false bs end)

      other : List ℕ
      other = verdict_bytes (whole_verdict true bs end)

      behind : drop 20 after ≡ other ++ drop (length (one ++ other)) before
      behind =
          ap (drop 20) (wrote ∙ ap (λ (x : Bool). cond x (one ++ other) one ++ drop (length (cond x (one ++ other) one)) before) (eq-eqb (edition_for bs) 2 two)
          ∙ append_assoc one other (drop (length (one ++ other)) before))
          ∙ drop_at one (other ++ drop (length (one ++ other)) before) 20 (twenty (whole_verdict false bs end))
