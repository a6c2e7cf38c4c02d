-- The worked cases that are proved, each a question with its answer, as one table.
-- Assumes nothing.
use Rattle.std.specs.Prelude.{ℕ, Bool, true, false, List, [], ◌∷◌, map, ℤ, pos, neg_ℤ}
use Rattle.cell.specs.Res.{Res, done, bind}
use Rattle.cell.specs.Types.{digits_of, binop_type}
use Rattle.cell.specs.Apply.{apply}
use Rattle.cell.specs.declared.Type.{«Type» as Ty}
use Rattle.cell.specs.declared.Type.TheVariants as T
use Rattle.cell.specs.declared.Value.{Value}
use Rattle.cell.specs.declared.Value.TheVariants.{Null, Truth, Fixed, Interval}
use Rattle.class.specs.Class.{lub_of, dominatesb}
use Rattle.class.specs.declared.Info.TheVariants.{Bound}
use Rattle.view.specs.Ast.{Exp}
use Rattle.view.specs.Ast as ast
use Rattle.scope.specs.Scopes.{Open, block}
use Rattle.resolve.specs.Resolve.{Out, good, bad, resolve}
use Rattle.tree.specs.Tree.{Tree, tree_lub, tree_cell_class, tree_class}
use Rattle.tree.specs.Trans.{expr_class, as_tree}
use Rattle.tree.specs.Select.{root}

pub data Question : Type 0 where
  lub : ℕ → ℕ → Question  -- the lub of two classes
  dominates : ℕ → ℕ → Question  -- whether the first class dominates the second
  operate : ℕ → Ty → Value → Ty → Value → Question  -- an operator on two values of the types before them
  label : ℕ → Open → Exp → Question  -- the class tree of a value in SELECT's block, k being the class of constants

pub data Answer : Type 0 where
  class : ℕ → Answer
  verdict : Bool → Answer
  outcome : Res Value → Answer
  tree : Tree → Answer
  refused : ℕ → ℕ → Answer

-- the class tree of what was resolved
unfoldable pub label_of : ℕ → Out → Answer
label_of k (good x t) = tree (as_tree (expr_class k root x))
label_of k (bad number place) = refused number place

-- the rules' answer; the digits of a result are those of the type that the type rule gives
unfoldable pub answer : Question → Answer
answer (lub a b) = class (lub_of a b)
answer (dominates a b) = verdict (dominatesb a b)
answer (operate op s u t v) = outcome (bind (binop_type op s t) (λ r. apply op (digits_of r) u v))
answer (label k s e) = label_of k (resolve [] (s ∷ []) e)

-- a result that is a value
abbrev pub is : Value → Answer
is v = outcome (done v)

abbrev + : ℕ → ℤ
+ n = pos n

abbrev - : ℕ → ℤ
- n = neg_ℤ (pos n)

-- a table with one column of numbers whose cells store their class
abbrev stored : Open
stored =
    block
    (record {
      tname = 7;
      tclass = 0;
      row = Bound 4096;
      cols = record { cname = 21; ty = T.Fixed 4 2; info = Bound 8193 } ∷ [];
    } ∷ [])

-- plus of a constant and that column
abbrev sum : Exp
sum = ast.Exp.binop 3 1 (ast.Exp.const 4 (T.Fixed 1 0) (Fixed 0 (+ 1))) (ast.Exp.col 5 21 0)

abbrev pub cases : List (Question × Answer)
cases =
    (lub 4097 8194, class 8195)
    ∷ (dominates 8192 4097, verdict false)
    ∷ (dominates 4097 8192, verdict false)
    -- (2,1): 1.5 × 1.5 = 2.2
    ∷ (operate 3 (T.Fixed 2 1) (Fixed 1 (+ 15)) (T.Fixed 2 1) (Fixed 1 (+ 15)), is (Fixed 1 (+ 22)))
    -- (2,1): -1.5 × 1.5 = -2.2
    ∷ (operate 3 (T.Fixed 2 1) (Fixed 1 (- 15)) (T.Fixed 2 1) (Fixed 1 (+ 15)), is (Fixed 1 (- 22)))
    -- -1.0 (3,1) / 3 (1,0) = -0.3
    ∷ (operate 4 (T.Fixed 3 1) (Fixed 1 (- 10)) (T.Fixed 1 0) (Fixed 0 (+ 3)), is (Fixed 1 (- 3)))
    -- 7/0 null
    ∷ (operate 4 (T.Fixed 1 0) (Fixed 0 (+ 7)) (T.Fixed 1 0) (Fixed 0 (+ 0)), is Null)
    -- 99 + 1 at (2,0) null
    ∷ (operate 1 (T.Fixed 2 0) (Fixed 0 (+ 99)) (T.Fixed 2 0) (Fixed 0 (+ 1)), is Null)
    -- 5 (1,0) + 0.5 (1,1) null
    ∷ (operate 1 (T.Fixed 1 0) (Fixed 0 (+ 5)) (T.Fixed 1 1) (Fixed 1 (+ 5)), is Null)
    -- interval -10 × 0.25 (3,2) = -2
    ∷ (operate 3 (T.Interval 0) (Interval (- 10)) (T.Fixed 3 2) (Fixed 2 (+ 25)), is (Interval (- 2)))
    -- null = null true
    ∷ (operate 9 T.Null Null T.Null Null, is (Truth true))
    -- false and null false
    ∷ (operate 5 T.Boolean (Truth false) T.Boolean Null, is (Truth false))
    -- plus of a constant, k = 1, and a stored column: LUB(CELLCLASS, CLASS 1)
    ∷ (label 1 stored sum, tree (tree_lub (tree_cell_class 0 0 0) (tree_class 1)))
    ∷ []

abbrev pub questions : List Question
questions = map (λ c. c.0) cases

abbrev pub answers : List Answer
answers = map (λ c. c.1) cases
