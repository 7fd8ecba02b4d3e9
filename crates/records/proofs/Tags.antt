-- A command's tag, by which `==` tells commands apart, is its rank: so `c == Command::Act` is `is_a Act c`.
-- Assumes nothing.
use Rattle.std.proofs.Common.{◌≡◌, Bool, eqb, refl, sym, ◌∙◌}
use denote.Enum.Bare.{sameb}
use denote.Enum.Declared.{tag_of}
use Rattle.records.specs.declared.Command.{Command}
use Rattle.records.specs.contracts.Command.{the_type}
use Rattle.records.specs.declared.Command.TheVariants.{Mrs, Ref, Pre, Act, Wr, Rd, Zq, Nop, Des, Sre, Srx, Low, Bad, Pde, Pdx}
use Rattle.records.specs.Command.{rank, is_a}

pub tag_is : (c : Command) → tag_of the_type c ≡ rank c
tag_is Mrs = refl
tag_is Ref = refl
tag_is Pre = refl
tag_is Act = refl
tag_is Wr = refl
tag_is Rd = refl
tag_is Zq = refl
tag_is Nop = refl
tag_is Des = refl
tag_is Sre = refl
tag_is Srx = refl
tag_is Low = refl
tag_is Bad = refl
tag_is Pde = refl
tag_is Pdx = refl

pub same_is : (c k : Command) → sameb the_type c k ≡ is_a k c
same_is c k = λ i. eqb (tag_is c i) (tag_is k i)

-- what a test tells
pub told : (c k : Command) {x y : Bool} → x ≡ sameb the_type c k → x ≡ y → is_a k c ≡ y
told c k is test = sym (same_is c k) ∙ sym is ∙ test
