-- Deadlines: the edge at which one passes, and which of several is the sooner.
-- Assumes nothing.
use Rattle.std.specs.Prelude.{ℕ, zero, suc, ◌+◌, ◌-◌, ◌*◌, Bool, cond, ◌&&◌, ◌||◌, List, leb, ltb, get_or}
use Rattle.answers.specs.declared.Break.{Break}
use Rattle.answers.specs.declared.Break.TheVariants.{Broken}
use Rattle.running.specs.declared.Debt.{Debt}
use Rattle.running.specs.declared.Pick.{Pick}
use Rattle.running.specs.declared.Late.{Late}

-- of two picks the bank whose due edge lies after lo and sooner
unfoldable pub better : (lo d b : ℕ) → Pick → Pick
better lo d b k = cond (ltb lo d && ltb d k.at) (record { at = d; bank = b }) k

-- the soonest due edge after lo and before hi, and its bank, of the banks below n; its edge is hi where there is none
unfoldable pub soonest : List ℕ → (lo hi n : ℕ) → Pick
soonest ds lo hi zero = record { at = hi; bank = 0 }
soonest ds lo hi (suc n) = better lo (get_or ds n 0) n (soonest ds lo hi n)

abbrev pub why : Late → Break
why x = Broken x.rule x.partner x.needed x.found

-- of two deadlines the sooner, of equals the first
unfoldable pub sooner : Late → Late → Late
sooner x y = cond (leb x.at y.at) x y

-- rules 24, 28 and 31: "needed its limit, found one more"
abbrev pub late_by : (rule at partner most : ℕ) → Late
late_by k at partner most = record { at = at; rule = k; partner = partner; needed = most; found = most + 1 }

-- the edge at which a stay in power-down since the edge `at` is too long; hi where CKE is high or the part is asleep
abbrev pub stay_until : (level sleeps : Bool) (at stay hi : ℕ) → ℕ
stay_until l s at stay hi = cond (l || s) hi (at + stay + 1)

abbrev pub late25 : (trefi : ℕ) → Debt → (partner edge hi : ℕ) → Late
late25 trefi d partner edge hi =
    record {
      at = cond d.sleeps hi (edge + ((17 - d.owed) * trefi - d.phase));
      rule = 25;
      partner = partner;
      needed = 8;
      found = 9;
    }

-- the edge at which the last REF is too far back, gap awake clocks of which were over at the edge; hi where the part is asleep
abbrev pub late31 : (nine : ℕ) → Debt → (partner edge hi : ℕ) → Late
late31 nine d partner edge hi = late_by 31 (cond d.sleeps hi (edge + (nine + 1 - d.gap))) partner nine
