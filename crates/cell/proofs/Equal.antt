-- Equal types, as the code compares them.
-- Assumes nothing.
use Rattle.std.proofs.Common.{◌≡◌, Bool, true, ◌&&◌, eqb, refl}
use Rattle.cell.specs.Types.{kind_of, digits_of, scale_of, format_of, same_type}
use Rattle.cell.specs.declared.Type.{«Type» as Ty}
use Rattle.cell.specs.declared.Type.TheVariants.{Null, Boolean, Fixed, Time, Interval, Class}
use Rattle.cell.specs.contracts.TypePartialEq.TheImpl as type_eq

-- the test that `==` makes of two types
abbrev pub type_eqb : Ty → Ty → Bool
type_eqb = (type_eq.ghosts).eq

and_true : (a : Bool) → (a && true) ≡ a
and_true true = refl
and_true _ = refl

-- `==` on types is same_type
pub same_eq : (s t : Ty) → same_type s t ≡ type_eqb s t
unfolding same_type kind_of digits_of scale_of format_of
same_eq Null Null = refl
same_eq Boolean Boolean = refl
same_eq (Fixed p s) (Fixed q r) = and_true _
same_eq (Time f) (Time g) = refl
same_eq (Interval f) (Interval g) = refl
same_eq Class Class = refl
same_eq s t = refl

-- a type that is equal to one without fields, by its kind
pub null_eq : (t : Ty) → eqb (kind_of t) 0 ≡ type_eqb t Null
unfolding kind_of
null_eq Null = refl
null_eq t = refl

pub boolean_eq : (t : Ty) → eqb (kind_of t) 1 ≡ type_eqb t Boolean
unfolding kind_of
boolean_eq Boolean = refl
boolean_eq t = refl

pub class_eq : (t : Ty) → eqb (kind_of t) 5 ≡ type_eqb t Class
unfolding kind_of
class_eq Class = refl
class_eq t = refl

pub ruleset equal_types = (same_eq, null_eq, boolean_eq, class_eq)
