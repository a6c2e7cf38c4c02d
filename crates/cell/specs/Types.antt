-- Types, the catalogue's word for each, and the type rules of operators and of IF.
-- Assumes nothing.
use Rattle.std.specs.Prelude.{ℕ, ◌+◌, ◌*◌, ◌/◌, ◌%◌, max, Bool, true, cond, ◌&&◌, ◌||◌, eqb, leb}
use Rattle.cell.specs.Res.{Res, stuck, done}
use Rattle.cell.specs.declared.Type.{«Type» as Ty}
use Rattle.cell.specs.declared.Type.TheVariants.{Null, Boolean, Fixed, Time, Interval, Class}

-- p is 1 to 9, s is 0 to 4 and at most p
unfoldable pub digits_rule : ℕ → ℕ → Bool
digits_rule p s = (leb 1 p && leb p 9) && (leb s 4 && leb s p)

-- a type word, by its high and its low byte: 1 boolean, 2 fixed (16p+s), 3 time and 4 interval (any format), 5 class
unfoldable pub type_rule : ℕ → ℕ → Bool
type_rule high low =
    (eqb high 1 && eqb low 0)
    || ((eqb high 2 && digits_rule (low / 16) (low % 16))
    || ((leb 3 high && leb high 4)
    || (eqb high 5 && eqb low 0)))

-- the type that a word of the catalogue says; any word that says none counts as null
unfoldable pub type_by : ℕ → ℕ → Ty
type_by high low =
    cond (eqb high 1) Boolean
    (cond (eqb high 2) (Fixed (low / 16) (low % 16))
    (cond (eqb high 3) (Time low)
    (cond (eqb high 4) (Interval low)
    (cond (eqb high 5) Class Null))))

-- a type in rule: the digits of a fixed one are
unfoldable pub in_rule : Ty → Bool
in_rule (Fixed p s) = digits_rule p s
in_rule _ = true

-- the word of a type
unfoldable pub word_of : Ty → ℕ
word_of Null = 0
word_of Boolean = 256
word_of (Fixed p s) = 512 + (16 * p + s)
word_of (Time f) = 768 + f
word_of (Interval f) = 1024 + f
word_of Class = 1280

-- the number of a type's kind, as the catalogue has it; 0 for null
unfoldable pub kind_of : Ty → ℕ
kind_of Null = 0
kind_of Boolean = 1
kind_of (Fixed p s) = 2
kind_of (Time f) = 3
kind_of (Interval f) = 4
kind_of Class = 5

-- the digits and the scale of a fixed type, the format of a time or an interval; else 0
unfoldable pub digits_of : Ty → ℕ
digits_of (Fixed p s) = p
digits_of _ = 0

unfoldable pub scale_of : Ty → ℕ
scale_of (Fixed p s) = s
scale_of _ = 0

unfoldable pub format_of : Ty → ℕ
format_of (Time f) = f
format_of (Interval f) = f
format_of _ = 0

-- two fixed types give the larger p and the larger s
unfoldable pub wider_of : Ty → Ty → Ty
wider_of s t = Fixed (max (digits_of s) (digits_of t)) (max (scale_of s) (scale_of t))

abbrev pub both : ℕ → Ty → Ty → Bool
both k s t = eqb (kind_of s) k && eqb (kind_of t) k

abbrev pub if : Bool → Ty → Res Ty
if b t = cond b (done t) stuck

-- 1 plus, 2 minus: two fixed; time with interval gives time; two intervals of one format give it
unfoldable pub sum_type : Ty → Ty → Res Ty
sum_type s t =
    cond (both 2 s t) (done (wider_of s t))
    (cond (eqb (kind_of s) 3 && eqb (kind_of t) 4) (done s)
    (if (both 4 s t && eqb (format_of s) (format_of t)) s))

-- 3 times, 4 divide: two fixed; interval with fixed gives the interval
unfoldable pub product_type : Ty → Ty → Res Ty
product_type s t =
    cond (both 2 s t) (done (wider_of s t))
    (if (eqb (kind_of s) 4 && eqb (kind_of t) 2) s)

-- 5 and, 6 or: two booleans
unfoldable pub logic_type : Ty → Ty → Res Ty
logic_type s t = if (both 1 s t) Boolean

-- 7 <, 8 <=, 11 >=, 12 >: two fixed, two times or two intervals
unfoldable pub order_type : Ty → Ty → Res Ty
order_type s t = if (eqb (kind_of s) (kind_of t) && (leb 2 (kind_of s) && leb (kind_of s) 4)) Boolean

-- 9 =, 10 <>: those, two booleans, two classes, or null with anything
unfoldable pub equal_type : Ty → Ty → Res Ty
equal_type s t = if (eqb (kind_of s) (kind_of t) || (eqb (kind_of s) 0 || eqb (kind_of t) 0)) Boolean

-- THE TYPE of BINOP op over two types, or stuck where the rule is broken
unfoldable pub binop_type : ℕ → Ty → Ty → Res Ty
binop_type op s t =
    cond (leb 1 op && leb op 2) (sum_type s t)
    (cond (leb 3 op && leb op 4) (product_type s t)
    (cond (leb 5 op && leb op 6) (logic_type s t)
    (cond (leb 9 op && leb op 10) (equal_type s t)
    (cond (leb 7 op && leb op 12) (order_type s t)
    stuck))))

-- equal types
unfoldable pub same_type : Ty → Ty → Bool
same_type s t =
    eqb (kind_of s) (kind_of t)
    && ((eqb (digits_of s) (digits_of t) && eqb (scale_of s) (scale_of t)) && eqb (format_of s) (format_of t))

-- THE TYPE of IF over its limbs' types: equal types, or two fixed to (max p, max s); else stuck
unfoldable pub limb_type : Ty → Ty → Res Ty
limb_type s t = cond (both 2 s t) (done (wider_of s t)) (if (same_type s t) s)
