-- How a record changes an array of the latest event of a kind at each place: one store at the record's own place.
-- Assumes nothing.
use Prim.Native.Nat.{ℕ, ◌+◌}
use native.Mathlib.Omega.{arith}
use mathlib.Core.Path.{◌≡◌, refl, sym, ap, ◌∙◌}
use mathlib.Core.Logic.{⊎_elim}
use mathlib.Core.Bool.{Bool, true, false, cond, ◌&&◌, ◌||◌, and-true}
use mathlib.Core.List.{◌∷◌, ◌++◌}
use lib.Dec.{eqb}
use Rattle.laws.proofs.Both.{both}
use Rattle.laws.specs.Eight.{table}
use Rattle.laws.proofs.Eight.{set-table, set_first, set-second, table-ext}
use Rattle.records.specs.declared.Record.{Record}
use Rattle.records.specs.declared.Command.TheVariants.{Pre, Wr, Rd}
use Rattle.records.specs.Command.{a10, bank_in}
use Rattle.running.specs.Next.{shuts_now, pre_all}
use Rattle.edges.specs.Next.{set_if, place}
use Rattle.edges.specs.Next as edges
use Rattle.rules.specs.Past.{Past, command, is, on, latest}
use Rattle.rules.specs.Banks.{closes}
use Rattle.rules.proofs.Generic.{decide}
use Rattle.rules.proofs.Events.{never, push}
use Rattle.rules.proofs.Clean.{is-other}
use Rattle.rules.proofs.Moves.{own-close, no-and, no-close}
use Rattle.rules.proofs.Summary.{rd_on, wr_on}
use Rattle.carries.proofs.Summary.{each, each_column}

-- an array of eight, changed at the own place where x holds: k b holds of the record just if x does and b is that place
module _ {A : Type 0} (r : Record) (p : Past) where
  pub stored : (f : Past → A) (k : ℕ → Past → Bool) (x : Bool) (v : A) → (x ≡ true → v ≡ f (r ∷ p))
      → ((b : ℕ) → k b (r ∷ p) ≡ x && eqb (bank_in r) b) → set_if x (each f k p) (bank_in r) v ≡ each f k (r ∷ p)
  stored f k true v e own =
      set-table (λ b. f (latest (k b) p)) (bank_in r) v (omega arith)
      ∙ table-ext (λ b. cond (eqb (bank_in r) b) v (f (latest (k b) p))) (λ b. f (latest (k b) (r ∷ p)))
      (λ b l. (λ i. cond (sym (own b) i) (e refl i) (f (latest (k b) p))) ∙ push f (k b (r ∷ p)) (r ∷ p) (latest (k b) p))
  stored f k false v e own = table-ext (λ b. f (latest (k b) p)) (λ b. f (latest (k b) (r ∷ p))) (λ b l. rw (own b))

  -- twice eight: a RD changes the first eight, a WR the others
  pub column-stored : (f g : Past → A) (v : A) → (is Rd (r ∷ p) ≡ true → v ≡ f (r ∷ p)) → (is Wr (r ∷ p) ≡ true → v ≡ g (r ∷ p))
      → set_if (edges.column (command (r ∷ p))) (each_column f g p) (place (command (r ∷ p)) r) v ≡ each_column f g (r ∷ p)
  column-stored f g v e d = go (is Rd (r ∷ p)) refl (is Wr (r ∷ p)) refl
    where
      rd : (x : Bool) → is Rd (r ∷ p) ≡ x → set_if x (each f rd_on p) (bank_in r) v ≡ each f rd_on (r ∷ p)
      rd x y = stored f rd_on x v (λ z. e (y ∙ z)) (λ b. ap (λ w. w && on b (r ∷ p)) y)

      wr : (x : Bool) → is Wr (r ∷ p) ≡ x → set_if x (each g wr_on p) (bank_in r) v ≡ each g wr_on (r ∷ p)
      wr x y = stored g wr_on x v (λ z. d (y ∙ z)) (λ b. ap (λ w. w && on b (r ∷ p)) y)

      go : (x : Bool) → is Rd (r ∷ p) ≡ x → (y : Bool) → is Wr (r ∷ p) ≡ y
          → set_if (x || y) (each_column f g p) (cond y (bank_in r + 8) (bank_in r)) v ≡ each_column f g (r ∷ p)
      go true a true c = never c (is-other Rd Wr (r ∷ p) (λ z. omega arith) a)
      go true a false c =
          set_first (λ b. f (latest (rd_on b) p)) (λ b. g (latest (wr_on b) p)) (bank_in r) v (omega arith) ∙ (λ i. rd true a i ++ wr false c i)
      go false a true c =
          set-second (λ b. f (latest (rd_on b) p)) (λ b. g (latest (wr_on b) p)) (bank_in r) v ∙ (λ i. rd false a i ++ wr true c i)
      go false a false c = λ i. rd false a i ++ wr false c i

-- a PRE of all banks changes every place, another closing event its own
module _ {A : Type 0} (r : Record) (p : Past) where
  pub shut-stored : (f : Past → A) (v w : A) → (pre_all (command (r ∷ p)) r ≡ true → w ≡ f (r ∷ p)) → (shuts_now (command (r ∷ p)) r ≡ true → v ≡ f (r ∷ p))
      → cond (pre_all (command (r ∷ p)) r) (table (λ _. w)) (set_if (shuts_now (command (r ∷ p)) r) (each f closes p) (bank_in r) v) ≡ each f closes (r ∷ p)
  shut-stored f v w d e = ⊎_elim
      (λ (y : pre_all (command (r ∷ p)) r ≡ true).
      rw y (table-ext (λ _. w) (λ b. f (latest (closes b) (r ∷ p))) (λ b l. d y ∙ sym (all b y))))
      (λ (z : pre_all (command (r ∷ p)) r ≡ false). rw z (stored r p f closes (shuts_now (command (r ∷ p)) r) v e (own z)))
      (decide (pre_all (command (r ∷ p)) r))
    where
      all : (b : ℕ) → pre_all (command (r ∷ p)) r ≡ true → f (latest (closes b) (r ∷ p)) ≡ f (r ∷ p)
      all b y = let u = both (is Pre (r ∷ p)) (a10 r) y in rw (u.0, u.1)

      own : pre_all (command (r ∷ p)) r ≡ false → (b : ℕ) → closes b (r ∷ p) ≡ shuts_now (command (r ∷ p)) r && eqb (bank_in r) b
      own z b = go (eqb (bank_in r) b)
        where
          go : (o : Bool) → is Pre (r ∷ p) && (a10 r || o) || (is Rd (r ∷ p) || is Wr (r ∷ p)) && (a10 r && o) ≡ shuts_now (command (r ∷ p)) r && o
          go true = own-close (is Pre (r ∷ p)) (a10 r) (is Rd (r ∷ p) || is Wr (r ∷ p)) ∙ sym (and-true (shuts_now (command (r ∷ p)) r))
          go false = no-close (is Pre (r ∷ p)) (a10 r) (is Rd (r ∷ p) || is Wr (r ∷ p)) z ∙ sym (no-and (shuts_now (command (r ∷ p)) r))
