-- Every cut of a recording between records is taken section by section, whatever refused sections are offered in between, and leads to
-- the state that the uncut recording leads to: the judge, of either edition, is a machine that takes sections.
-- Assumes nothing.
use Prim.Native.Nat.{ℕ, ◌/◌}
use native.Mathlib.Omega.{arith}
use native.Mathlib.Nat.{zero-div}
use mathlib.Core.Path.{◌≡◌, sym, ap, ◌∙◌, subst}
use mathlib.Core.Bool.{false}
use mathlib.Core.List.{List, [], ◌++◌}
use lib.ListN.{length}
use Rattle.laws.specs.Cuts as cuts
use Rattle.laws.specs.Cuts.{Each, Offer, offered, parts, whole}
use Rattle.laws.proofs.Cuts as machine
use Rattle.header.specs.declared.Header.{Header}
use Rattle.header.specs.Bytes.{edition_for}
use Rattle.records.specs.Record.{records, has_zero}
use Rattle.records.proofs.Records.{records-append}
use Rattle.wide.specs.Editions.{size, view}
use Rattle.wide.proofs.Editions.{even-rest, count-both, view-both, view-sixes, spare-both}
use Rattle.chip.specs.Chip.{chip_of}
use Rattle.judge.specs.declared.State.{State}
use Rattle.judge.specs.Calls.{open_of}
use Rattle.rules.proofs.Facts.{Sound}
use Rattle.rules.proofs.Cutting.{zero-append}
use Rattle.sections.specs.Sections.{Opens, Fits, Even, after, refused, run, taken, Judges}
use Rattle.sections.proofs.Section.{fits-taken, Stands, refused-by}
use Rattle.sections.proofs.Sections.{takes, leaves, sound-chip, opened, sections-judged}

-- bytes that fit after bs, cut between records: the first part fits, and after it the rest
cut_fits : (e : ℕ) (bs xs ys : List ℕ) → Even e bs → Even e xs → Fits e (length bs / size e) (xs ++ ys)
    → Fits e (length bs / size e) xs × Fits e (length (bs ++ xs) / size e) ys
cut_fits e bs xs ys u v f =
    let seen = ap records (view-both e false xs ys v) ∙ records-append (view e false xs) (view e false ys) (view-sixes e false xs v) in
    let z = zero-append (records (view e false xs)) (records (view e false ys)) (ap has_zero (sym seen) ∙ f.steps) in
    let w = spare-both e xs ys v f.zeros in
    let more = count-both e xs ys v in
    let all = count-both e bs xs u in (
      record { even = v; room = omega (arith, more, f.room); steps = z.0; zeros = w.0 },
      record { even = even-rest e xs ys v f.even; room = omega (arith, more, all, f.room); steps = z.1; zeros = w.1 },
    )

module _ (h : Header) (S : Sound (chip_of h)) (e : ℕ) where
  abbrev FitsAfter : (bs xs : List ℕ) → Type 0
  FitsAfter bs xs = Fits e (length bs / size e) xs

  fits_in : (bs : List ℕ) (s : State) → Stands h e bs s → (xs : List ℕ) → FitsAfter bs xs → refused s xs ≡ 0
  fits_in bs s a xs f = refused-by h S e bs s a xs ∙ fits-taken e (length bs / size e) xs f

  cut : (bs : List ℕ) (s : State) → Stands h e bs s → (xs ys : List ℕ) → Even e xs → FitsAfter bs (xs ++ ys) → FitsAfter bs xs × FitsAfter (bs ++ xs) ys
  cut bs s a xs ys = cut_fits e bs xs ys a.even

module _ (header : List ℕ) (h : Header) (o : Opens header h) (os : List Offer) (even : Each (Even (edition_for header)) (parts os))
    (f : Fits (edition_for header) 0 (whole os)) (spare : cuts.Spare after refused (open_of header).state os) where
  abbrev e : ℕ
  e = edition_for header

  abbrev S : Sound (chip_of h)
  S = sound-chip header h o

  first : FitsAfter h S e [] (whole os)
  first = rw (zero-div (size e)) f

  -- no part is refused, and what is taken is the recording
  pub every-cut : cuts.Goes after refused (open_of header).state os × (taken (open_of header).state (offered os) ≡ whole os)
  every-cut =
      machine.every-cut after refused (Stands h e) (takes h S e) (leaves h S e) (FitsAfter h S e) (Even e) (fits_in h S e) (cut h S e) os []
      (open_of header).state (opened header h o) even first spare

  -- the state is that of the recording in one section
  pub cut-same : run (open_of header).state (offered os) ≡ after (open_of header).state (whole os)
  cut-same =
      machine.cut-same after refused (Stands h e) (takes h S e) (leaves h S e) (FitsAfter h S e) (Even e) (fits_in h S e) (cut h S e)
      (λ bs s t a b. a.state ∙ sym b.state) os (open_of header).state (opened header h o) even first spare

  -- and so are verdicts, banks, registers and debts, at every end edge
  pub cut-judged : Judges h e (whole os) (run (open_of header).state (offered os))
  cut-judged = subst (λ bs. Judges h e bs (run (open_of header).state (offered os))) every-cut.1 (sections-judged header h o (offered os))
