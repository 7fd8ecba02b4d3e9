-- Sections in turn: one more, one after the last, two lists of them as one; and the loop over a block of ten.
-- Assumes nothing.
use Prim.Native.Nat.{ℕ, zero, suc, ◌+◌, ◌*◌, min}
use native.Mathlib.Nat.{suc-add, zero-add}
use native.Mathlib.Omega.{arith}
use mathlib.Core.Bool.{Bool, true, false, and-eq-true_iff}
use mathlib.Core.List.{List, [], ◌∷◌, ◌++◌}
use mathlib.Core.Path.{◌≡◌, refl, sym, ap, ◌∙◌}
use borrow.Author.Tests.{ltb-true, ltb-false, eqb-true}
use lib.Dec.{eqb, ltb}
use lib.ListN.{length, take, drop, length-drop, drop_of_length-le}
use lib.Seq.{take_all, take-append-le, drop-append-le}
use Rattle.judge.specs.declared.State.{State}
use Rattle.judge.specs.Calls.{section_of}
use Rattle.program.specs.declared.Run.{Run}
use Rattle.program.specs.Program.{next_run, ran_over}

-- ── Sections in turn ────────────────────────────────────────────────────────────────────────

-- a run that has no more goes no further
pub stopped : (n : ℕ) (r : Run) (bs : List ℕ) → r.more ≡ false → ran_over n r bs ≡ r
unfolding ran_over
stopped zero r bs e = refl
stopped (suc n) r bs e = rw e

-- the run behind one more section
abbrev pub after : Run → List ℕ → Run
after r bs = next_run r.state (take 6000 bs)

-- a run that may have more takes a section
pub goes : (n : ℕ) (r : Run) (bs : List ℕ) → r.more ≡ true → ran_over (suc n) r bs ≡ ran_over n (after r bs) (drop 6000 bs)
unfolding ran_over
goes n r bs e = rw e

-- none: the run itself
pub still : (r : Run) (bs : List ℕ) → ran_over 0 r bs ≡ r
unfolding ran_over
still r bs = refl

-- what has more at the end had more from the start
pub had-more : (n : ℕ) (r : Run) (bs : List ℕ) → (ran_over n r bs).more ≡ true → r.more ≡ true
had-more n r bs h = go r.more refl
  where
    go : (x : Bool) → r.more ≡ x → r.more ≡ true
    go true e = e
    go false e = sym (ap (λ (q : Run). q.more) (stopped n r bs e)) ∙ h

-- what has more behind a section took it, and it was full
pub was-full : (s : State) (bs : List ℕ) → (next_run s bs).more ≡ true → ((section_of s bs).refused ≡ 0) × (length bs ≡ 6000)
was-full s bs h =
    let both = (and-eq-true_iff (eqb (section_of s bs).refused 0) (eqb (length bs) 6000)).0 h in (eqb-true _ _ both.0, eqb-true _ _ both.1)

-- full sections, and then others: all of them in turn
pub in-turn : (m n : ℕ) (r : Run) (bs ys : List ℕ) → length bs ≡ m * 6000 → ran_over (m + n) r (bs ++ ys) ≡ ran_over n (ran_over m r bs) ys
in-turn zero n r [] ys l = ap (λ (k : ℕ). ran_over k r ys) (zero-add n) ∙ ap (λ (q : Run). ran_over n q ys) (sym (still r []))
in-turn zero n r (b ∷ bs) ys l = absurd (omega arith)
in-turn (suc m) n r bs ys l =
    ap (λ (k : ℕ). ran_over k r (bs ++ ys)) (suc-add m n)
    ∙ go r.more refl (in-turn m n (after r bs) (drop 6000 bs) ys (omega (arith, length-drop 6000 bs)))
  where
    go : (x : Bool) → r.more ≡ x
        → ran_over (m + n) (after r bs) (drop 6000 bs ++ ys) ≡ ran_over n (ran_over m (after r bs) (drop 6000 bs)) ys
        → ran_over (suc (m + n)) r (bs ++ ys) ≡ ran_over n (ran_over (suc m) r bs) ys
    go true e ih =
        goes (m + n) r (bs ++ ys) e
        ∙ (λ i. ran_over (m + n) (next_run r.state (take-append-le 6000 bs ys (omega arith) i)) (drop-append-le 6000 bs ys (omega arith) i))
        ∙ ih
        ∙ ap (λ (q : Run). ran_over n q ys) (sym (goes m r bs e))
    go false e ih =
        stopped (suc (m + n)) r (bs ++ ys) e ∙ sym (stopped n r ys e) ∙ ap (λ (q : Run). ran_over n q ys) (sym (stopped (suc m) r bs e))

-- however many are allowed: where none has more, they are the same run
pub enough : (m n : ℕ) (r : Run) (bs : List ℕ) → (ran_over m r bs).more ≡ false → (ran_over n r bs).more ≡ false → ran_over m r bs ≡ ran_over n r bs
enough zero n r bs s t = still r bs ∙ sym (stopped n r bs (sym (ap (λ (q : Run). q.more) (still r bs)) ∙ s))
enough (suc m) zero r bs s t = stopped (suc m) r bs (sym (ap (λ (q : Run). q.more) (still r bs)) ∙ t) ∙ sym (still r bs)
enough (suc m) (suc n) r bs s t = go r.more refl (enough m n (after r bs) (drop 6000 bs))
  where
    go : (x : Bool) → r.more ≡ x
        → ((ran_over m (after r bs) (drop 6000 bs)).more ≡ false → (ran_over n (after r bs) (drop 6000 bs)).more ≡ false
        → ran_over m (after r bs) (drop 6000 bs) ≡ ran_over n (after r bs) (drop 6000 bs))
        → ran_over (suc m) r bs ≡ ran_over (suc n) r bs
    go true e ih =
        let a = goes m r bs e in
        let b = goes n r bs e in
        a ∙ ih (sym (ap (λ (q : Run). q.more) a) ∙ s) (sym (ap (λ (q : Run). q.more) b) ∙ t) ∙ sym b
    go false e ih = stopped (suc m) r bs e ∙ sym (stopped (suc n) r bs e)

-- ── The loop over a block ───────────────────────────────────────────────────────────────────

-- as many as there are, or all
take-least : (k n : ℕ) (bs : List ℕ) → k ≡ min n (length bs) → take k bs ≡ take n bs
take-least k n bs e = go (ltb (length bs) n) refl
  where
    go : (x : Bool) → ltb (length bs) n ≡ x → take k bs ≡ take n bs
    go true t = let short = ltb-true (length bs) n t in take_all k bs (omega arith) ∙ sym (take_all n bs (omega arith))
    go false t =
        let long = ltb-false (length bs) n t in
        let all : k ≡ n = omega arith in
        ap (λ (j : ℕ). take j bs) all

drop-least : (k n : ℕ) (bs : List ℕ) → k ≡ min n (length bs) → drop k bs ≡ drop n bs
drop-least k n bs e = go (ltb (length bs) n) refl
  where
    go : (x : Bool) → ltb (length bs) n ≡ x → drop k bs ≡ drop n bs
    go true t =
        let short = ltb-true (length bs) n t in
        drop_of_length-le bs (omega arith) ∙ sym (drop_of_length-le bs (omega arith))
    go false t =
        let long = ltb-false (length bs) n t in
        let all : k ≡ n = omega arith in
        ap (λ (j : ℕ). drop j bs) all

-- a turn: a section, of as many bytes as there are, or all
pub turned :
    (m left : ℕ) (r n : Run) (rest section behind : List ℕ) (k : ℕ) → m ≡ suc left → r.more ≡ true → k ≡ min (length rest) 6000 → section ≡ take k rest
    → behind ≡ drop k rest → n ≡ next_run r.state section → ran_over left n behind ≡ ran_over m r rest
turned m left r n rest section behind k one more least front back is =
    (λ i. ran_over left (part i) (others i)) ∙ sym (goes left r rest more) ∙ ap (λ (j : ℕ). ran_over j r rest) (sym one)
  where
    part : n ≡ after r rest
    part = is ∙ ap (next_run r.state) (front ∙ take-least k 6000 rest (omega arith))

    others : behind ≡ drop 6000 rest
    others = back ∙ drop-least k 6000 rest (omega arith)
