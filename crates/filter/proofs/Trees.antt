-- Where a tree that was given comes from: an accepted view, resolved and translated, within both limits.
-- Assumes nothing.
use Prim.Native.Nat.{ℕ, ◌+◌, ◌*◌, ◌≤◌}
use mathlib.Core.Path.{◌≡◌, refl, sym}
use mathlib.Core.Bool.{Bool, true, false, cond, ◌&&◌}
use mathlib.Core.List.{List}
use native.Mathlib.Omega.{arith}
use borrow.Author.Tests.{leb-true}
use lib.Dec.{leb}
use Rattle.word.specs.Refusal.{fine, refusal, and_then}
use Rattle.cell.specs.declared.Type.{«Type» as Ty}
use Rattle.catalogue.specs.Tables.{catalogue_of}
use Rattle.view.specs.Ast.{Block, Parsed, ok, refused}
use Rattle.view.specs.Parse.{parse_view}
use Rattle.view.proofs.Laws.{and_left, and_right}
use Rattle.resolve.specs.Expr.{Select}
use Rattle.resolve.specs.Resolve as resolve
use Rattle.tree.specs.Tree.{SelectTree, size_select}
use Rattle.tree.specs.Select.{translated}
use Rattle.filter.specs.Jobs.{resolved_by, view_by, tree_fits, tree_of}

-- where the tree comes from
pub record TreeIs (c v : List ℕ) (k q room : ℕ) (t : SelectTree) : Type 0 where
  pub block : Block
  pub records : ℕ
  pub sel : Select
  pub tys : List Ty
  pub read : parse_view v ≡ ok block records
  pub resolved : resolve.resolve_view (catalogue_of c) block ≡ resolve.select sel tys
  pub is : t ≡ translated k q sel
  pub short : size_select t ≤ 8190
  pub room_for : 8 + 8 * size_select t ≤ room

fits_inv : (room : ℕ) (u t : SelectTree) → tree_fits room u ≡ fine t → (u ≡ t) × (size_select u ≤ 8190) × (8 + 8 * size_select u ≤ room)
unfolding tree_fits
fits_inv room u t e = go (leb (size_select u) 8190 && leb (8 + 8 * size_select u) room) refl e
  where
    go : (z : Bool) → (leb (size_select u) 8190 && leb (8 + 8 * size_select u) room) ≡ z → cond z (fine u) (refusal 10 0) ≡ fine t →
        (u ≡ t) × (size_select u ≤ 8190) × (8 + 8 * size_select u ≤ room)
    go true g e =
        let p : u ≡ t = cc in (
          p,
          leb-true (size_select u) 8190 (and_left (leb (size_select u) 8190) (leb (8 + 8 * size_select u) room) g),
          leb-true (8 + 8 * size_select u) room (and_right (leb (size_select u) 8190) (leb (8 + 8 * size_select u) room) g),
        )
    go false g e = absurd (let z : ◌≡◌ {A = ℕ} 0 1 = cc in omega arith)

module _ (c v : List ℕ) (k q room : ℕ) (t : SelectTree) where
  from_names : (b : Block) (m : ℕ) → parse_view v ≡ ok b m → (x : resolve.Resolved) → resolve.resolve_view (catalogue_of c) b ≡ x →
      and_then (resolved_by x) (λ s. tree_fits room (translated k q s)) ≡ fine t → TreeIs c v k q room t
  unfolding resolved_by
  from_names b m f (resolve.select s ts) g e =
      let (i, j, l) = fits_inv room (translated k q s) t e in
      record {
        block = b;
        records = m;
        sel = s;
        tys = ts;
        read = f;
        resolved = g;
        is = sym i;
        short = rw (sym i) j;
        room_for = rw (sym i) l;
      }
  from_names b m f (resolve.refused i p) g e = absurd (let z : ◌≡◌ {A = ℕ} 0 1 = cc in omega arith)

  from_view : (P : Parsed Block) → parse_view v ≡ P → and_then (view_by (catalogue_of c) P) (λ s. tree_fits room (translated k q s)) ≡ fine t → TreeIs c v k q room t
  unfolding view_by
  from_view (ok b m) f e = from_names b m f (resolve.resolve_view (catalogue_of c) b) refl e
  from_view (refused i p) f e = absurd (let z : ◌≡◌ {A = ℕ} 0 1 = cc in omega arith)

  pub tree_is : tree_of c v k q room ≡ fine t → TreeIs c v k q room t
  unfolding tree_of
  tree_is e = from_view (parse_view v) refl e
