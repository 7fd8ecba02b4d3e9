-- Opening, sections in turn and closing, over bytes: the answer is what the rules say of the recording that the taken sections make.
-- Assumes nothing.
use Prim.Native.Nat.{ℕ, ◌/◌, ◌≤◌}
use native.Mathlib.Nat.{zero-div, zero-mod}
use mathlib.Core.Path.{◌≡◌, sym, ap, ◌∙◌, subst}
use mathlib.Core.Bool.{Bool, true, false}
use mathlib.Core.List.{List, [], ◌++◌}
use lib.ListN.{length}
use borrow.Author.Tests.{le-ltb}
use Rattle.laws.proofs.Cuts as machine
use Rattle.header.specs.declared.Header.{Header}
use Rattle.header.specs.Bytes.{edition_for}
use Rattle.records.specs.Record.{records, has_zero}
use Rattle.wide.specs.Editions.{size, view}
use Rattle.wide.proofs.Editions.{even-both, view-none, view-both, view-sixes, second-zero}
use Rattle.chip.specs.Chip.{chip_of}
use Rattle.edges.specs.Ends.{start_rank}
use Rattle.judge.specs.declared.State.{State}
use Rattle.judge.specs.Answers.{SectionAnswer as Answer}
use Rattle.judge.specs.Answers.{OpenAnswer as Opened}
use Rattle.judge.specs.Answers.{CloseAnswer as Closed}
use Rattle.running.specs.Ranges.{last_edge}
use Rattle.running.specs.Ends.{no_end}
use Rattle.judge.specs.Calls.{holding, start_of, open_of, of_second, closed, close_of}
use Rattle.rules.specs.Past.{edge, recording}
use Rattle.rules.specs.Verdict.{shown_verdict, Apart, answer}
use Rattle.rules.proofs.Facts.{Sound}
use Rattle.rules.proofs.Cutting.{steps, apart-all, recording-append}
use Rattle.carries.proofs.Whole.{carried}
use Rattle.carries.proofs.Carrying.{start-carried}
use Rattle.sections.specs.Sections.{Opens, Fits, after, refused, run, taken, Judges}
use Rattle.sections.proofs.Openings.{taken-sound, opened-state}
use Rattle.sections.proofs.Never.{open-in-range, section-in-range}
use Rattle.sections.proofs.Section.{fits, state_of, Stands, first-stood, second-stood, count-is, close-is, section-fits, section-refused, refused-by, verdict-is, second_is}

start_is : (h : Header) (e : ℕ) → start_of h e ≡ state_of h e []
start_is h e = λ i. holding h e (at false i) (at true i)
  where
    at : (second : Bool) → start_rank (chip_of h) ≡ carried (chip_of h) (recording (view e second []))
    at second = start-carried (chip_of h) ∙ ap (λ bs. carried (chip_of h) (recording bs)) (sym (view-none e second))

module _ (h : Header) (S : Sound (chip_of h)) (e : ℕ) where
  judges : (bs : List ℕ) (s : State) → Stands h e bs s → Judges h e bs s
  judges bs s a = record {
    first-rank = first-stood h S e bs s a;
    second-rank = second-stood h S e bs s a;
    counted = count-is h S e bs s a;
    refused-is = refused-by h S e bs s a;
    unaltered = λ xs n. ap (λ (r : Answer). r.state) (section-refused h S e bs s a xs (λ q. n (refused-by h S e bs s a xs ∙ q)));
    verdict = λ xs q. verdict-is h S e bs s a xs (sym (refused-by h S e bs s a xs) ∙ q);
    second = λ xs q. second_is h S e bs s a xs (sym (refused-by h S e bs s a xs) ∙ q);
    close = close-is h S e bs s a;
  }

  -- ── The judge is a machine that takes sections ──────────────────────────────────────────────

  -- a section that fits leads on
  pub stands-more : (bs : List ℕ) (s : State) → Stands h e bs s → (xs : List ℕ) → Fits e (length bs / size e) xs → Stands h e (bs ++ xs) (after s xs)
  stands-more bs s a xs f = record {
    even = even-both e bs xs a.even f.even;
    apart = λ second.
        subst Apart (recording-append (view e second bs) (view e second xs) (view-sixes e second bs a.even) ∙ ap recording (sym (view-both e second bs xs a.even)))
        (apart-all (records (view e second xs)) (recording (view e second bs)) (steps (records (view e second xs)) (none second)) (a.apart second));
    state = ap (λ (r : Answer). r.state) (section-fits h S e bs s a xs f);
    range = section-in-range s xs a.range;
  }
    where
      none : (second : Bool) → has_zero (records (view e second xs)) ≡ false
      none true = second-zero e xs f.steps
      none false = f.steps

  pub takes : (bs : List ℕ) (s : State) → Stands h e bs s → (xs : List ℕ) → refused s xs ≡ 0 → Stands h e (bs ++ xs) (after s xs)
  takes bs s a xs q = stands-more bs s a xs (fits e (length bs / size e) xs (sym (refused-by h S e bs s a xs) ∙ q))

  pub leaves : (bs : List ℕ) (s : State) → Stands h e bs s → (xs : List ℕ) → (refused s xs ≡ 0 → ⊥) → after s xs ≡ s
  leaves bs s a xs n = ap (λ (r : Answer). r.state) (section-refused h S e bs s a xs (λ q. n (refused-by h S e bs s a xs ∙ q)))

  stands-run : (xss : List (List ℕ)) (bs : List ℕ) (s : State) → Stands h e bs s → Stands h e (bs ++ taken s xss) (run s xss)
  stands-run = machine.stands-run after refused (Stands h e) takes leaves

-- ── From opening on ─────────────────────────────────────────────────────────────────────────

module _ (header : List ℕ) (h : Header) (o : Opens header h) where
  abbrev e : ℕ
  e = edition_for header

  pub sound-chip : Sound (chip_of h)
  sound-chip = taken-sound e header h o

  pub opened : Stands h e [] (open_of header).state
  opened = record {
    even = zero-mod (size e);
    apart = λ second. rw (view-none e second) tt;
    state = ap (λ (x : Opened). x.state) (opened-state header h o) ∙ start_is h e;
    range = open-in-range header (ap (λ (x : Opened). x.refused) (opened-state header h o));
  }

  -- the state and the bytes after the sections xss, offered after the header bytes
  pub stands : (xss : List (List ℕ)) → Stands h e (taken (open_of header).state xss) (run (open_of header).state xss)
  stands xss = stands-run h sound-chip e xss [] (open_of header).state opened

  -- however the sections are cut, and whichever are refused
  pub sections-judged : (xss : List (List ℕ)) → Judges h e (taken (open_of header).state xss) (run (open_of header).state xss)
  sections-judged xss = judges h sound-chip e (taken (open_of header).state xss) (run (open_of header).state xss) (stands xss)

  -- a whole recording in one go
  module _ (bs : List ℕ) (f : Fits e 0 bs) (end : ℕ) (l : edge (recording (view e false bs)) ≤ end) (m : end ≤ last_edge) where
    start : Stands h e [] (start_of h e)
    start = subst (Stands h e []) (ap (λ (x : Opened). x.state) (opened-state header h o)) opened

    whole : Stands h e bs (after (start_of h e) bs)
    whole = stands-more h sound-chip e [] (start_of h e) start bs (rw (zero-div (size e)) f)

    pub judged-whole :
        close_of (after (start_of h e) bs) end
        ≡ closed (answer (chip_of h) (recording (view e false bs)) end) (of_second e (answer (chip_of h) (recording (view e true bs)) end) no_end)
    judged-whole =
        close-is h sound-chip e bs (after (start_of h e) bs) whole end
        ∙ rw (le-ltb end (edge (recording (view e false bs))) l, le-ltb last_edge end m)

    pub judged-verdict :
        ((close_of (after (start_of h e) bs) end).refused ≡ 0)
        × ((close_of (after (start_of h e) bs) end).end.verdict ≡ shown_verdict (chip_of h) (recording (view e false bs)) end)
    unfolding answer
    judged-verdict = (ap (λ (c : Closed). c.refused) judged-whole, ap (λ (c : Closed). c.end.verdict) judged-whole)
