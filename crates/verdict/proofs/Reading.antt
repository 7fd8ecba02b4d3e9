-- Blocks that are read in turn are the sections of all their bytes, and these with the header's are an input.
-- Assumes nothing.
use Prim.Native.Nat.{ℕ, ◌+◌, ◌*◌, ◌≤◌, ◌<◌}
use native.Mathlib.Decide.{ℕ_discrete}
use native.Mathlib.Omega.{arith}
use mathlib.Core.Bool.{Bool, true, false, ◌&&◌}
use mathlib.Core.List.{List, [], ◌++◌}
use mathlib.Core.Path.{◌≡◌, refl, sym, ap, ◌∙◌}
use borrow.Author.Tests.{leb-false, lt-leb, ne_eqb}
use lib.Dec.{leb}
use lib.ListN.{length, take, drop, length-append}
use lib.Seq.{take_all, take_at, drop_at}
use Rattle.header.specs.Bytes.{header_refusal, parsed_of}
use Rattle.judge.specs.Calls.{open_of}
use Rattle.lines.specs.Line.{Printed}
use Rattle.program.specs.declared.Run.{Run}
use Rattle.program.specs.Answer.{answer_line, second_line}
use Rattle.program.specs.Program.{opened_run, ran_over, program_line, program_second}
use Rattle.program.proofs.Blocks.{stopped, still, in-turn, enough}
use Rattle.verdict.specs.Reading.{Opened, Took, Ran, Judged, Told, ToldSecond}
use Rattle.verdict.proofs.Counting.{filled}

-- ── The loop over blocks ────────────────────────────────────────────────────────────────────

-- so many records were read at least, and the run is that of their sections; as long as there may be more, all blocks were full
pub record Reads (start run : Run) (read : ℕ) : Type 0 where
  pub blocks : ℕ
  pub bytes : List ℕ
  pub count : read ≡ blocks * 7500
  pub same : run ≡ ran_over (blocks * 10) start bytes
  pub full : run.more ≡ true → length bytes ≡ blocks * 60000

pub reads-start : (start : Run) → Reads start start 0
reads-start start = record { blocks = 0; bytes = []; count = omega arith; same = sym (still start []); full = λ h. omega arith }

-- past the limit
pub past-limit : (more : Bool) (read : ℕ) → 1048577 ≤ read → (more && leb read 1048576) ≡ false
past-limit true read far = lt-leb read 1048576 far
past-limit false read far = refl

-- a run that has taken all its sections has no more
ended : (n : ℕ) (r : Run) (bs : List ℕ) → length bs < n * 6000 → (ran_over n r bs).more ≡ false
ended n r bs l = go (ran_over n r bs).more refl
  where
    go : (x : Bool) → (ran_over n r bs).more ≡ x → x ≡ false
    go true h = absurd (omega (arith, (filled n r bs h).bytes))
    go false h = refl

module _ (start run : Run) (read : ℕ) (w : Reads start run read) where
  pub reads-turn : run.more ≡ true → (n : Run) → Took run n → Reads start n (read + 7500)
  reads-turn more n (bs, most, is) =
      let behind : length w.bytes ≡ w.blocks * 10 * 6000 = omega (arith, w.full more) in
      let ten : w.blocks * 10 + 10 ≡ (w.blocks + 1) * 10 = omega arith in
      record {
        blocks = w.blocks + 1;
        bytes = w.bytes ++ bs;
        count = omega (arith, w.count);
        same =
            is
            ∙ ap (λ (r : Run). ran_over 10 r bs) w.same
            ∙ sym (in-turn (w.blocks * 10) 10 start w.bytes bs behind)
            ∙ ap (λ (k : ℕ). ran_over k start (w.bytes ++ bs)) ten;
        full = λ h.
            let all = (filled 10 run bs (sym (ap (λ (r : Run). r.more) is) ∙ h)).bytes in
            omega (arith, all, most, w.full more, length-append w.bytes bs);
      }

  -- past the limit there is no more
  over : start.state.one.count ≡ 0 → (run.more && leb read 1048576) ≡ false → run.more ≡ false
  over zero e = go run.more refl
    where
      go : (x : Bool) → run.more ≡ x → run.more ≡ false
      go true h =
          let all = filled (w.blocks * 10) start w.bytes (sym (ap (λ (r : Run). r.more) w.same) ∙ h) in
          let past = leb-false read 1048576 (ap (λ (x : Bool). x && leb read 1048576) (sym h) ∙ e) in
          absurd (omega (arith, zero, past, w.count, all.records, all.within (omega (arith, zero))))
      go false h = h

  pub reads_end : start.state.one.count ≡ 0 → (run.more && leb read 1048576) ≡ false → Ran start run
  reads_end zero e =
      let none = over zero e in
      let all = ended (length w.bytes + 1) start w.bytes (omega arith) in
      (w.bytes, w.same ∙ enough (w.blocks * 10) (length w.bytes + 1) start w.bytes (sym (ap (λ (r : Run). r.more) w.same) ∙ none) all)

-- ── All of the input ────────────────────────────────────────────────────────────────────────

-- opening refuses what is not six bytes
short : (bs : List ℕ) → (length bs ≡ 6 → ⊥) → (opened_run bs).more ≡ false
unfolding open_of parsed_of header_refusal
short bs few = rw (ne_eqb (length bs) 6 few)

pub judged-by : (start r : Run) → Opened start → Ran start r → Judged r
judged-by start r (header, most, is) (bs, e) = elim (ℕ_discrete (length header) 6) [
  | yes six ↦ (
    header ++ bs,
    e
        ∙ enough (length bs + 1) (length (header ++ bs) + 1) start bs
        (ended (length bs + 1) start bs (omega arith))
        (ended (length (header ++ bs) + 1) start bs (omega (arith, length-append header bs)))
        ∙ ap (λ (q : Run). ran_over (length (header ++ bs) + 1) q bs) (is ∙ ap opened_run (sym (take_at header bs 6 six)))
        ∙ ap (λ (xs : List ℕ). ran_over (length (header ++ bs) + 1) (opened_run (take 6 (header ++ bs))) xs) (sym (drop_at header bs 6 six)),
  )
  | no few ↦
      let all = take_all 6 header most in (
        header,
        e
            ∙ stopped (length bs + 1) start bs (ap (λ (q : Run). q.more) is ∙ short header few)
            ∙ is
            ∙ ap opened_run (sym all)
            ∙ sym (stopped (length header + 1) (opened_run (take 6 header)) (drop 6 header) (ap (λ (xs : List ℕ). (opened_run xs).more) all ∙ short header few)),
      )
]

-- what is printed of a run over all of some input is that input's line
pub told-by : (r : Run) → Judged r → (before after : List ℕ) (n : ℕ) → Printed (answer_line r.refused r.state) before n after → Told (take n after)
unfolding program_line
told-by r (input, is) before after n p =
    let line = answer_line r.refused r.state in (
      input,
      ap (λ (bs : List ℕ). take n bs) p.out
          ∙ take_at line (drop (length line) before) n (sym p.count)
          ∙ ap (λ (q : Run). answer_line q.refused q.state) is,
    )

pub told-second-by : (r : Run) → Judged r → (before after : List ℕ) (n : ℕ) → Printed (second_line r.refused r.state) before n after → ToldSecond (take n after)
unfolding program_second
told-second-by r (input, is) before after n p =
    let line = second_line r.refused r.state in (
      input,
      ap (λ (bs : List ℕ). take n bs) p.out
          ∙ take_at line (drop (length line) before) n (sym p.count)
          ∙ ap (λ (q : Run). second_line q.refused q.state) is,
    )
