-- What the program prints of its input is what 01 wants: the first refusal, or the rules' verdicts on the uncut recording.
-- Assumes nothing.
use Prim.Native.Nat.{ℕ, zero, suc, ◌+◌, ◌*◌, ◌/◌, ◌≤◌, ◌<◌}
use native.Mathlib.Nat.{zero-div}
use native.Mathlib.Omega.{arith}
use native.Mathlib.Decide.{ℕ_discrete}
use mathlib.Core.Path.{◌≡◌, refl, sym, ap, ◌∙◌, subst}
use mathlib.Core.Bool.{Bool, true, false, cond, ◌&&◌}
use mathlib.Core.List.{List, [], ◌++◌, append_assoc}
use lib.Dec.{eqb}
use lib.ListN.{length, take, drop, length-take, length-drop, take-append-drop}
use lib.Seq.{take_all}
use borrow.Author.Tests.{eq-eqb, ne_eqb, eqb-true, le-ltb}
use Rattle.header.specs.declared.Header.{Header}
use Rattle.header.specs.Bytes.{Parsed}
use Rattle.header.proofs.Answers.{number_is}
use Rattle.sections.proofs.Recordings.{opened-number}
use Rattle.header.specs.Bytes.{edition_for, header_refusal, header_word, header_of, parsed_of}
use Rattle.wide.specs.Editions.{size, view, refusal}
use Rattle.wide.proofs.Editions.{count-both}
use Rattle.chip.specs.Chip.{chip_of}
use Rattle.running.specs.Ranges.{last_edge}
use Rattle.running.specs.Ends.{no_end}
use Rattle.edges.proofs.Ranging as rank
use Rattle.judge.specs.declared.State.{State}
use Rattle.judge.specs.Answers.{OpenAnswer as Opened}
use Rattle.judge.specs.Calls.{opened_by, open_of, of_second, closed, close_of}
use Rattle.judge.proofs.Ranging as judge
use Rattle.rules.specs.Past.{edge, recording}
use Rattle.rules.specs.Verdict.{shown_verdict, verdict_so_far, answer}
use Rattle.rules.proofs.Facts.{Sound}
use Rattle.sections.specs.Sections.{Opens, after, refused}
use Rattle.sections.proofs.Openings.{opened-state}
use Rattle.sections.proofs.Section.{Stands, fits, first-stood, second-stood, close-is, refused-by}
use Rattle.sections.proofs.Sections.{sound-chip, opened as opened-stands, stands-more}
use Rattle.sections.proofs.Recordings.{same-edition}
use Rattle.lines.specs.Line.{verdict_line}
use Rattle.program.specs.declared.Run.{Run}
use Rattle.program.specs.Answer.{closing_line, answer_line, closing_second, second_line}
use Rattle.program.specs.Program.{opened_run, next_run, ran_over, program_line, program_second}
use Rattle.program.proofs.Blocks.{stopped}
use Rattle.prints.specs.Wanted.{first_refusal, refused_lines, wanted_lines}

-- a run that goes on, and the lines of a run
abbrev going : State → Run
going s = record { refused = 0; state = s; more = true }

abbrev lines_of : Run → List ℕ × List ℕ
lines_of r = (answer_line r.refused r.state, second_line r.refused r.state)

refused-lines : (n : ℕ) (s : State) → (n ≡ 0 → ⊥) → (answer_line n s, second_line n s) ≡ refused_lines n
unfolding answer_line second_line
refused-lines n s some = rw (ne_eqb n 0 some)

module _ (h : Header) (S : Sound (chip_of h)) (e : ℕ) where
  -- a rank's line
  abbrev line_for : (second : Bool) → List ℕ → List ℕ
  line_for second bs = verdict_line (verdict_so_far (chip_of h) (recording (view e second bs)))

  abbrev lines_for : List ℕ → List ℕ × List ℕ
  lines_for bs = (line_for false bs, cond (eqb e 2) (line_for true bs) [])

  module _ (bs : List ℕ) (s : State) (a : Stands h e bs s) where
    -- the last edge of a state that stands is within bounds
    near : s.one.edge ≤ last_edge
    near = let t = rank.ranged s.one (judge.tested s a.range).rank in omega (arith, t.count, t.edge)

    abbrev at : ℕ
    at = edge (recording (view e false bs))

    edge-is : s.one.edge ≡ at
    edge-is = (first-stood h S e bs s a).last

    closed_is :
        close_of s s.one.edge
        ≡ closed (answer (chip_of h) (recording (view e false bs)) s.one.edge) (of_second e (answer (chip_of h) (recording (view e true bs)) s.one.edge) no_end)
    closed_is =
        close-is h S e bs s a s.one.edge
        ∙ rw (le-ltb s.one.edge at (omega (arith, edge-is)), le-ltb last_edge s.one.edge near)

    first-closes : answer_line 0 s ≡ line_for false bs
    unfolding answer_line closing_line answer
    first-closes = ap closing_line closed_is ∙ ap (λ (t : ℕ). verdict_line (shown_verdict (chip_of h) (recording (view e false bs)) t)) edge-is

    -- both ranks have the last edge
    second-closes : second_line 0 s ≡ cond (eqb e 2) (line_for true bs) []
    unfolding second_line closing_second answer
    second-closes = ap (λ (k : ℕ). cond (eqb k 2) (closing_second (close_of s s.one.edge)) []) (ap (λ (x : State). x.edition) a.state) ∙ go (eqb e 2) refl
      where
        go : (x : Bool) → eqb e 2 ≡ x → cond x (closing_second (close_of s s.one.edge)) [] ≡ cond x (line_for true bs) []
        go true p =
            let two = eqb-true e 2 p in
            let same = ((judge.tested s a.range).second (ap (λ (x : State). x.edition) a.state ∙ two)).edge in
            ap closing_second closed_is
            ∙ ap (λ (x : Bool). verdict_line (cond x (answer (chip_of h) (recording (view e true bs)) s.one.edge) no_end).verdict) p
            ∙ ap (λ (t : ℕ). verdict_line (shown_verdict (chip_of h) (recording (view e true bs)) t)) (same ∙ (second-stood h S e bs s a).last)
        go false p = refl

    -- closed at its last edge it has the verdicts so far
    closes : (answer_line 0 s, second_line 0 s) ≡ lines_for bs
    closes = λ i. (first-closes i, second-closes i)

  -- what 01 wants of sections after so many records
  abbrev wanted : (sections count : ℕ) (all rest : List ℕ) → List ℕ × List ℕ
  wanted n count all ys = cond (eqb (first_refusal e n count ys) 0) (lines_for all) (refused_lines (first_refusal e n count ys))

  abbrev Prints : ℕ → (bs ys : List ℕ) → State → Type 0
  Prints n bs ys s = lines_of (ran_over n (going s) ys) ≡ wanted n (length bs / size e) (bs ++ ys) ys

  module _ (n : ℕ) (bs ys : List ℕ) (s : State) (a : Stands h e bs s) where
    abbrev xs : List ℕ
    xs = take 6000 ys

    number : refused s xs ≡ refusal e (length bs / size e) xs
    number = refused-by h S e bs s a xs

    refused-next : (refusal e (length bs / size e) xs ≡ 0 → ⊥) → Prints (suc n) bs ys s
    unfolding ran_over first_refusal
    refused-next some =
        let none : refused s xs ≡ 0 → ⊥ = λ q. some (sym number ∙ q) in
        ap lines_of (stopped n (next_run s xs) (drop 6000 ys) (rw (ne_eqb _ 0 none)))
        ∙ refused-lines _ _ none ∙ ap refused_lines number
        ∙ rw (ne_eqb _ 0 some, ne_eqb _ 0 some)

    module _ (taken : refusal e (length bs / size e) xs ≡ 0) where
      next : Stands h e (bs ++ xs) (after s xs)
      next = stands-more h S e bs s a xs (fits e (length bs / size e) xs taken)

      zeroed : refused s xs ≡ 0
      zeroed = number ∙ taken

      short-next : (length xs ≡ 6000 → ⊥) → Prints (suc n) bs ys s
      unfolding ran_over first_refusal
      short-next short =
          let same : xs ≡ ys = take_all 6000 ys (omega (arith, length-take 6000 ys, short)) in
          ap lines_of (stopped n (next_run s xs) (drop 6000 ys) (rw (eq-eqb _ 0 zeroed, ne_eqb _ 6000 short)))
          ∙ ap (λ (m : ℕ). (answer_line m (after s xs), second_line m (after s xs))) zeroed
          ∙ closes (bs ++ xs) (after s xs) next
          ∙ ap (λ (zs : List ℕ). lines_for (bs ++ zs)) same
          ∙ rw (eq-eqb _ 0 taken, ne_eqb _ 6000 short)

      full-next : length xs ≡ 6000 → Prints n (bs ++ xs) (drop 6000 ys) (after s xs) → Prints (suc n) bs ys s
      unfolding ran_over first_refusal
      full-next full ih =
          let goes : next_run s xs ≡ going (after s xs) =
          (λ i. record { refused = zeroed i; state = after s xs; more = eq-eqb _ 0 zeroed i && eq-eqb _ 6000 full i }) in
          let count : length (bs ++ xs) / size e ≡ length bs / size e + 6000 / size e =
          count-both e bs xs a.even ∙ ap (λ (m : ℕ). length bs / size e + m / size e) full in
          let all : (bs ++ xs) ++ drop 6000 ys ≡ bs ++ ys = append_assoc bs xs (drop 6000 ys) ∙ ap (λ (zs : List ℕ). bs ++ zs) (take-append-drop 6000 ys) in
          ap (λ (r : Run). lines_of (ran_over n r (drop 6000 ys))) goes
          ∙ ih
          ∙ (λ i. wanted n (count i) (all i) (drop 6000 ys))
          ∙ rw (eq-eqb _ 0 taken, eq-eqb _ 6000 full)

  prints : (n : ℕ) (bs ys : List ℕ) (s : State) → Stands h e bs s → length ys < n * 6000 → Prints n bs ys s
  prints zero bs ys s a l = absurd (omega arith)
  prints (suc n) bs ys s a l = elim (ℕ_discrete (refusal e (length bs / size e) (take 6000 ys)) 0) [
    | no q ↦ refused-next n bs ys s a q
    | yes q ↦ elim (ℕ_discrete (length (take 6000 ys)) 6000) [
      | no k ↦ short-next n bs ys s a q k
      | yes k ↦
          full-next n bs ys s a q k
          (prints n (bs ++ take 6000 ys) (drop 6000 ys) (after s (take 6000 ys)) (next n bs ys s a q)
          (omega (arith, length-drop 6000 ys, length-take 6000 ys, k)))
    ]
  ]

-- ── The header ──────────────────────────────────────────────────────────────────────────────

module _ (input : List ℕ) where
  abbrev header : List ℕ
  header = take 6 input

  abbrev edition : ℕ
  edition = edition_for input

  abbrev lines : List ℕ × List ℕ
  lines = (program_line input, program_second input)

  -- the header's answer, with the edition that is asked for
  asked : parsed_of (edition_for header) header ≡ parsed_of edition header
  asked = ap (λ (k : ℕ). parsed_of k header) (same-edition input)

  parsed : header_refusal edition header ≡ 0 → Opens header (header_of (header_word header))
  unfolding parsed_of
  parsed none = asked ∙ rw (eq-eqb (header_refusal edition header) 0 none)

  not_opened : (header_refusal edition header ≡ 0 → ⊥) → lines ≡ wanted_lines input
  unfolding program_line program_second wanted_lines open_of
  not_opened some =
      let number : (open_of header).refused ≡ header_refusal edition header =
      ap (λ (p : Parsed). (opened_by (edition_for header) p).refused) asked ∙ opened-number (edition_for header) (parsed_of edition header) ∙ number_is edition header in
      let none : (open_of header).refused ≡ 0 → ⊥ = λ q. some (sym number ∙ q) in
      ap lines_of (stopped (length input + 1) (opened_run header) (drop 6 input) (ne_eqb _ 0 none))
      ∙ refused-lines _ _ none ∙ ap refused_lines number
      ∙ rw (ne_eqb _ 0 some)

  opened : header_refusal edition header ≡ 0 → lines ≡ wanted_lines input
  unfolding program_line program_second wanted_lines
  opened none =
      let h = header_of (header_word header) in
      let is = parsed none in
      let zero : (open_of header).refused ≡ 0 = ap (λ (o : Opened). o.refused) (opened-state header h is) in
      let goes : opened_run header ≡ going (open_of header).state =
      (λ i. record { refused = zero i; state = (open_of header).state; more = eq-eqb _ 0 zero i }) in
      let begun = subst (λ (k : ℕ). Stands h k [] (open_of header).state) (same-edition input) (opened-stands header h is) in
      ap (λ (r : Run). lines_of (ran_over (length input + 1) r (drop 6 input))) goes
      ∙ prints h (sound-chip header h is) edition (length input + 1) [] (drop 6 input) (open_of header).state begun (omega (arith, length-drop 6 input))
      ∙ ap (λ (k : ℕ). wanted h (sound-chip header h is) edition (length input + 1) k (drop 6 input) (drop 6 input)) (zero-div (size edition))
      ∙ rw (eq-eqb _ 0 none)

  -- the lines that the program prints of its input
  pub program-means : lines ≡ wanted_lines input
  program-means = elim (ℕ_discrete (header_refusal edition header) 0) [
    | yes q ↦ opened q
    | no q ↦ not_opened q
  ]
