-- The turns of the lane, for every rank of its arrays that is not broken.
-- Assumes nothing.
use Prim.Native.Nat.{ℕ, ◌+◌, ◌-◌, ◌≤◌, ◌<◌}
use native.Mathlib.Omega.{arith}
use mathlib.Core.Bool.{Bool, true, false, cond, not, ◌&&◌, ◌||◌, true≢false}
use mathlib.Core.List.{List}
use mathlib.Core.Path.{◌≡◌, refl, sym, ap, ◌∙◌, subst}
use lib.ListN.{get_or, length}
use borrow.Author.Tests.{eqb-false, leb-false}
use Rattle.laws.specs.Eight.{table}
use Rattle.records.specs.declared.Record.{Record}
use Rattle.records.specs.declared.Command.{Command}
use Rattle.records.specs.declared.Command.TheVariants.{Mrs, Ref, Pre, Bad}
use Rattle.records.specs.Record.{record_at}
use Rattle.records.specs.Command.{is_a}
use Rattle.chip.specs.declared.Chip.{Chip}
use Rattle.chip.specs.declared.Regs.{Regs}
use Rattle.running.specs.declared.Asks.{Asks}
use Rattle.running.specs.Easy.{Asked}
use Rattle.running.specs.Ranges.{far_edge}
use Rattle.laws.proofs.Both.{both, neither}
use Rattle.laws.proofs.Eight.{get_or-table}
use Rattle.edges.specs.declared.Banks.{Banks}
use Rattle.edges.specs.declared.Rank.{Rank}
use Rattle.edges.specs.Views.{regs_of, written_of, CKE}
use Rattle.edges.specs.Next.{slow_now}
use Rattle.edges.specs.Step.{step_of}
use Rattle.edges.specs.Clearing.{Off, Clears, Owing, Staying, clear_next}
use Rattle.edges.specs.Ranges.{farthest}
use Rattle.edges.specs.Running.{Track, Rest, rank_of, all_written, Standing, Quickly}
use Rattle.edges.specs.Lane.{Clear, Folding, Stands, Smoothly, Leaves, Ahead, Came, rest_after, track_after}
use Rattle.edges.proofs.Dues.{due-at, NoneSoon, same-soon, idle-off}
use Rattle.edges.proofs.Clearing.{off-sooner, next-owed, next-near, next-below}
use Rattle.edges.proofs.Folding.{Lengths}
use Rattle.edges.proofs.Turns.{fold_start, quick-stands, quick-still, quick-done, fold_more}
use Rattle.edges.proofs.Stands.{last-edge, one_more_lem}
use Rattle.edges.proofs.Coming.{seldom-step}
use Rattle.edges.proofs.Keeping.{eight, same_regs, kept-owed, slow-device, slow-floor, may-good, kept-stays, ref-idle}

pub by-the-codes : {C : Chip} {g G : Regs} {w : Asks} → Asked C g w → g ≡ G → Asked C G w
by-the-codes {C = C} {w = w} h e = subst (λ (G : Regs). Asked C G w) e h

-- the beginning
pub lane-start : (C : Chip) (bytes : List ℕ) (from : ℕ) (d : Rest) (t : Track) (clear : ℕ) (real : Bool) (w : Asks)
    → Stands C bytes d t from → Clears C.most t.banks t.edge clear → clear ≤ t.edge + C.most + 1 → Owing d.debt clear
    → Staying d.level d.debt.sleeps (get_or d.device.at CKE 0) C.nine clear → (real ≡ true → (b : ℕ) → b < 8 → get_or t.banks.actno b 0 ≤ t.count)
    → Asked C (regs_of d.device) w → Folding C (rank_of d t) from bytes clear real false w d t from
lane-start C bytes from d t clear real w s due near owed stays acting asked =
    fold_start C (rank_of d t) from bytes clear real w d t refl s.fit
    (record { due = λ b l. subst (Off t.edge clear) (sym (due-at C t.banks b l)) (due b l); near = near; owed = owed; stays = stays }) acting s.clean s.broke asked

module _ {C : Chip} {bytes : List ℕ} {from : ℕ} {s : Rank} where
  module _ {clear : ℕ} {real stale : Bool} {w : Asks} {d : Rest} {t : Track} {at : ℕ} (f : Folding C s from bytes clear real stale w d t at) where
    lane-due : (d.debt.due ≤ far_edge) × (d.debt.gap ≤ far_edge)
    lane-due = (go d.debt.due d.debt.sleeps f.debt.0, go d.debt.gap d.debt.sleeps f.debt.1)
      where
        go : (x : ℕ) (y : Bool) → x - cond y 0 t.edge ≤ farthest → x ≤ far_edge
        go x true k = omega (arith, k)
        go x false k = omega (arith, k, f.base.edge, f.base.room)

    -- what must be known before the next record is looked at
    pub lane-ahead : at < length bytes → (r : Record) → r ≡ record_at bytes at → Ahead C r d t
    lane-ahead more r is = record {
      small = f.base.small;
      edge = last-edge _ _ _ _ _ f.base more r is;
      count = one_more_lem _ _ _ _ _ f.base more r is;
      debt = lane-due;
      turned = f.turned;
    }

    -- what the registers ask, worked out anew where it is asked for
    lane-asks : (usual : Bool) (w' : Asks) → (stale && usual ≡ true → Asked C (regs_of d.device) w') → (stale && usual ≡ false → w' ≡ w)
        → Folding C s from bytes clear real (stale && not usual) w' d t at
    lane-asks usual w' anew same = record {
      along = f.along;
      later = f.later;
      base = f.base;
      free = f.free;
      acting = f.acting;
      clean = f.clean;
      broke = f.broke;
      asked = asks stale usual f.asked anew same;
      debt = f.debt;
      turned = f.turned;
    }
      where
        asks : (a u : Bool) → (a ≡ false → Asked C (regs_of d.device) w) → (a && u ≡ true → Asked C (regs_of d.device) w') → (a && u ≡ false → w' ≡ w)
            → a && not u ≡ false → Asked C (regs_of d.device) w'
        asks true true g n s e = n refl
        asks true false g n s e = absurd (true≢false e)
        asks false u g n s e = subst (Asked C (regs_of d.device)) (sym (s refl)) (g refl)

    -- where the quick way may go
    pub lane-stands : (usual : Bool) → Standing C (cond (real && usual) clear 0) bytes at t
    lane-stands usual = go real usual refl
      where
        go : (a u : Bool) → real ≡ a → Standing C (cond (a && u) clear 0) bytes at t
        go true true e = quick-stands C s from bytes f e
        go true false e = f.base
        go false u e = f.base

    went : (usual : Bool) → (usual ≡ true → d.level ≡ true) → (usual ≡ true → stale ≡ false) → (t' : Track) (at' : ℕ)
        → Quickly C w (all_written d.device) (written_of d.device).dll (cond (real && usual) clear 0) bytes t at t' at'
        → Folding C s from bytes clear real stale w d t' at'
    went usual high fresh t' at' q = go real usual refl refl q
      where
        go : (a u : Bool) → real ≡ a → usual ≡ u → Quickly C w (all_written d.device) (written_of d.device).dll (cond (a && u) clear 0) bytes t at t' at'
            → Folding C s from bytes clear real stale w d t' at'
        go true true e i q = rw (fresh i) (quick-done C s from bytes f e (high i) w (f.asked (fresh i)) t' at' q)
        go true false e i q = quick-still C s from bytes f (all_written d.device) (written_of d.device).dll w t' at' q
        go false u e i q = quick-still C s from bytes f (all_written d.device) (written_of d.device).dll w t' at' q

  -- what the registers ask worked out anew where that is needed, the quick way went as far as it could; u: the next record is a frequent command
  pub lane-quick :
      {clear : ℕ} {real stale : Bool} {w : Asks} {d : Rest} {t : Track} {at : ℕ} → Folding C s from bytes clear real stale w d t at
      → (u : Bool) (w' : Asks) → (stale && (d.level && u) ≡ true → Asked C (regs_of d.device) w')
      → (stale && (d.level && u) ≡ false → w' ≡ w) → (bound : ℕ) → bound ≡ cond (real && (d.level && u)) clear 0 → (t' : Track) (at' : ℕ)
      → Quickly C w' (all_written d.device) (written_of d.device).dll bound bytes t at t' at'
      → Folding C s from bytes clear real (stale && not (d.level && u)) w' d t' at'
  lane-quick {clear} {real} {stale} {w} {d} {t} {at} f u w' anew same bound is t' at' q =
      went (lane-asks f (d.level && u) w' anew same) (d.level && u) (λ z. (both d.level u z).0) (fresh stale (d.level && u)) t' at'
      (subst (λ (y : ℕ). Quickly C w' (all_written d.device) (written_of d.device).dll y bytes t at t' at') is q)
    where
      fresh : (a u : Bool) → u ≡ true → a && not u ≡ false
      fresh true true z = refl
      fresh false u z = refl
      fresh true false z = absurd (true≢false (sym z))

  -- by other names
  same_fold : {real : Bool} {w : Asks} {at : ℕ} {c c' : ℕ} {m m' : Bool} {d d' : Rest} {t t' : Track} → c' ≡ c → m' ≡ m → d' ≡ d → t' ≡ t
      → Folding C s from bytes c real m w d t at → Folding C s from bytes c' real m' w d' t' at
  same_fold p q o u f = rw (p, q, o, u) f

  module _ {clear : ℕ} {real stale : Bool} {w : Asks} {d : Rest} {t : Track} {at : ℕ} (f : Folding C s from bytes clear real stale w d t at) where
    -- the next record is a seldom command that comes, and what it leaves behind
    module _ (more : at < length bytes) (r : Record) (is : r ≡ record_at bytes at) {mode : Bool} {clear' : ℕ} {d' : Rest} {t' : Track}
        (came : Came C r clear real d t mode clear' d' t') where
      abbrev c : Command
      c = came.command

      abbrev e : ℕ
      e = t.edge + r.step

      abbrev n : ℕ
      n = t.count + 1

      left : Leaves C c r e n d t d' t'
      left = came.left

      abbrev slow : Bool
      slow = left.slow

      some : r.step ≡ 0 → ⊥
      some = eqb-false r.step 0 came.some

      before : e < clear
      before = leb-false clear e came.before

      abbrev d₁ : Rest
      d₁ = rest_after C c r e n slow d

      abbrev t₁ : Track
      t₁ = track_after C c r e n slow t

      long : Lengths t₁
      long = record {
        act = f.base.actsize;
        col = f.base.colsize;
        pre = f.base.presize;
        acted = f.base.actedsize;
        num = f.base.numsize;
        shut = eight (is_a Pre c) t.banks.shutat t₁.banks.shutat e refl f.base.shutsize;
        by = eight (is_a Pre c) t.banks.shutno t₁.banks.shutno n refl f.base.bysize;
        ring = f.base.ringsize;
      }

      step : step_of C (rank_of d t) r ≡ rank_of d₁ t₁
      step =
          seldom-step C d t r clear f.free f.clean before (record { act = f.base.actsize; col = f.base.colsize; pre = f.base.presize }) c (sym came.names) came.may
          ∙ (λ i. rank_of
          (record {
            first = d.first;
            level = r.cke;
            debt = d₁.debt;
            holds = d₁.holds;
            device = sym (slow-device C c r e n slow (slow_now t.banks d.device) d.device left.slowly) i;
          })
          (record t₁ { floor = sym (slow-floor C c r e slow (slow_now t.banks d.device) t.floor left.slowly) i }))

      good : is_a Bad c ≡ false
      good = may-good C c r e t.floor t.banks t.pre d.holds d.device came.may

      asks : stale || is_a Mrs c ≡ false → Asked C (regs_of d₁.device) w
      asks z =
          let k = neither stale (is_a Mrs c) z in
          subst (λ (G : Regs). Asked C G w) (sym (same_regs C c r e n slow d.device k.1)) (f.asked k.0)

      abbrev turned : ℕ
      turned = get_or d₁.device.at CKE 0

      abbrev clear₁ : ℕ
      clear₁ = clear_next C.most C.nine c e turned d₁.debt clear

      -- no bank comes due behind a REF or a PRE of all banks, and behind another none before the edge that was
      due : (a b : Bool) → is_a Ref c ≡ a → is_a Pre c ≡ b → NoneSoon C t₁.banks e clear₁
      due true b p q =
          let idle = ref-idle C c r e t.floor t.banks t.pre d.holds d.device came.may p in
          same-soon C t.banks t₁.banks e e clear₁ (omega arith) refl refl (rw idle.0 refl) (rw idle.0 refl)
          (λ b k. subst (Off e clear₁) (sym (due-at C t.banks b k)) (idle-off e clear₁ C.most (get_or t.banks.actat b 0) (get_or t.banks.actno b 0)
          (get_or t.banks.shutat b 0) (get_or t.banks.shutno b 0) (idle.1.closed b k) (idle.1.over b k)))
      due false true p q =
          let all : Banks = record t.banks { shutat = table (λ _. e); shutno = table (λ _. n) } in
          same-soon C all t₁.banks e e clear₁ (omega arith) refl refl (rw q refl) (rw q refl)
          (λ b k. subst (Off e clear₁) (sym (due-at C all b k)) (idle-off e clear₁ C.most (get_or t.banks.actat b 0) (get_or t.banks.actno b 0)
          (get_or (table (λ _. e)) b 0) (get_or (table (λ _. n)) b 0)
          (omega (arith, f.acting (came.acts q) b k, get_or-table (λ _. n) b 0 k)) (omega (arith, get_or-table (λ _. e) b 0 k))))
      due false false p q =
          λ b k. off-sooner e clear clear₁ _ (next-below C.most C.nine c e turned d₁.debt clear p q)
          (same-soon C t.banks t₁.banks t.edge e clear (omega arith) refl refl (rw q refl) (rw q refl) f.free.due b k)

      free : Clear C clear₁ d₁ t₁
      free = record {
        due = due (is_a Ref c) (is_a Pre c) refl refl;
        near = next-near C.most C.nine c e turned d₁.debt clear (omega (arith, f.free.near));
        owed = next-owed C.most C.nine c e turned d₁.debt clear (λ y z. kept-owed C c e d.debt clear y z f.free.owed);
        stays = kept-stays C c r e n slow d.level d.debt d.device d₁.debt d₁.device turned clear came.names good refl refl refl f.free.stays;
      }

      seldom : Folding C s from bytes clear₁ real (stale || is_a Mrs c) w d₁ t₁ (at + 6)
      seldom =
          fold_more C s from bytes f more r is some d₁ t₁ clear₁ (stale || is_a Mrs c) w real step long free (λ y b i. omega (arith, f.acting y b i)) f.clean asks

      pub lane-seldom : Folding C s from bytes clear' real (stale || mode) w d' t' (at + 6)
      lane-seldom =
          let clears : clear' ≡ clear₁ = came.clears ∙ ap (λ (x : Rest). clear_next C.most C.nine c e (get_or x.device.at CKE 0) x.debt clear) left.rest in
          same_fold clears (ap (λ (b : Bool). stale || b) came.sets) left.rest left.track seldom

pub lane-out : {C : Chip} {bytes : List ℕ} {from : ℕ} (d₀ : Rest) (t₀ : Track) {clear : ℕ} {real stale : Bool} {w : Asks} {d : Rest} {t : Track} {at : ℕ}
    → Folding C (rank_of d₀ t₀) from bytes clear real stale w d t at → Smoothly C bytes d₀ t₀ from d t at
lane-out d₀ t₀ f = record {
  stands = record { fit = record { base = f.base; debt = f.debt; turned = f.turned }; clean = f.clean; broke = f.broke };
  along = f.along;
  later = f.later;
}
