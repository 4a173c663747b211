-- What constructors read of lists: opened again in later tables they are the same, and what is within a limit is within a larger one.
use Rattle.std.specs.Prelude.{if◌then◌else◌}
use mathlib.Core.Path.{◌≡◌, refl, sym, ◌∙◌, ap, ap₂, subst}
use mathlib.Core.Bool.{Bool, true, false}
use mathlib.Core.List.{List, [], ◌∷◌, ◌++◌}
use Prim.Native.Nat.{ℕ, ◌+◌, ◌*◌, ◌/◌, ◌%◌, ◌≤◌, ◌<◌}
use native.Mathlib.Omega.{arith}
use native.Mathlib.Nat.{mod-lt}
use lib.Dec.{eqb, leb}
use lib.ListN.{length, get_or}
use borrow.Author.Tests.{eqb-true, leb-true, le-leb}
use Rattle.netkat.specs.Rules.{Rule, Rules, union, intersection}
use Rattle.aut_steps.specs.Tables.{UNION, INTERSECT, TOP, words, Limits, Aut}
use Rattle.aut_steps.specs.Constructors.{Within, within, beyond, then_within, opened, extend, open_all, Opened, list, top, long, then_open, open_union, count_one, count_all, product}
use Rattle.aut_steps.specs.Kinds.{Form, many, form}
use Rattle.aut_steps.specs.Ascending.{All}
use Rattle.aut_steps.proofs.ListLaws.{all_append}
use Rattle.aut_steps.proofs.Scratch.{all_word}
use Rattle.aut_steps.specs.Wf.{states, kind, first, second, members, Many, Ok, WfAut}
use Rattle.aut_steps.proofs.Wf.{ok_as}
use Rattle.aut_steps.proofs.UnionLaws.{opened_states}
use Rattle.aut_steps.proofs.Products.{union_size}
use Rattle.aut_replay.specs.Replay.{Later}
use Rattle.aut_replay.proofs.Runs.{kind_later, first_later, second_later, members_later}

-- within the first limit, with P, and then the same within the second
pub data Withins {A : Type 0} (P : A → Type 0) : Within A → Within A → Type 0 where
  fails : {o : Within A} → Withins P beyond o
  same : {a : A} → P a → Withins P (within a) (within a)

pub data Openings (P : List ℕ → Type 0) : Opened → Opened → Type 0 where
  fails : {o : Opened} → Openings P long o
  tops : Openings P top top
  same : {xs : List ℕ} → P xs → Openings P (list xs) (list xs)

-- what the second comes to
pub within_same : {A : Type 0} {P : A → Type 0} {a : A} {o : Within A} → Withins P (within a) o → (o ≡ within a) × P a
within_same (same p) = (refl, p)

pub open_top : {P : List ℕ → Type 0} {o : Opened} → Openings P top o → o ≡ top
open_top tops = refl

pub open_list : {P : List ℕ → Type 0} {xs : List ℕ} {o : Opened} → Openings P (list xs) o → (o ≡ list xs) × P xs
open_list (same p) = (refl, p)

within_if : {A : Type 0} {P : A → Type 0} (b c : Bool) (a : A) → (b ≡ true → c ≡ true) → P a → Withins P (if b then within a else beyond) (if c then within a else beyond)
within_if {P = P} true c a f p = subst (λ (d : Bool). Withins P (within a) (if d then within a else beyond)) (sym (f refl)) (same p)
within_if false c a f p = fails

within_then : {A B : Type 0} {P : A → Type 0} {Q : B → Type 0} {o p : Within A} {k j : A → Within B} → Withins P o p → ((a : A) → P a → Withins Q (k a) (j a)) → Withins Q (then_within o k) (then_within p j)
within_then fails f = fails
within_then (same {a} p) f = f a p

open_then : {P Q : List ℕ → Type 0} {o p : Within (List ℕ)} {k j : List ℕ → Opened} → Withins P o p → ((a : List ℕ) → P a → Openings Q (k a) (j a)) → Openings Q (then_open o k) (then_open p j)
open_then fails f = fails
open_then (same {a} p) f = f a p

leb_wide : (n m k : ℕ) → m ≤ k → leb n m ≡ true → leb n k ≡ true
leb_wide n m k l e = le-leb n k (omega (arith, leb-true n m e))

module _ {N : ℕ} {L : Limits} {σ υ : Aut} (g : WfAut N L σ) (w : Later σ υ) where
  pub list_later : (k : ℕ) (c : Rules N → Rule N) → form {N = N} k ≡ many c → (x : ℕ) → x < states σ → kind σ x ≡ k → members υ x ≡ members σ x
  list_later k c q x l e = members_later w x l (subst (λ (f : Form N). Ok f σ x) q (ok_as g k l e)).inside

  opened_later : (k : ℕ) (c : Rules N → Rule N) → form {N = N} k ≡ many c → (x : ℕ) → x < states σ
      → opened k υ.states.words υ.members.words x ≡ opened k σ.states.words σ.members.words x
  unfolding opened
  opened_later k c q x l = ap (λ (j : ℕ). if eqb j k then members υ x else x ∷ []) (kind_later w x l) ∙ go (eqb (kind σ x) k) refl
    where
      go : (b : Bool) → eqb (kind σ x) k ≡ b → (if b then members υ x else x ∷ []) ≡ (if b then members σ x else x ∷ [])
      go true e = list_later k c q x l (eqb-true (kind σ x) k e)
      go false e = refl

  module _ {most more : ℕ} (wide : most ≤ more) where
    abbrev Are : List ℕ → Type 0
    Are xs = All (λ x. x < states σ) xs

    extend_wide : (acc ys zs : List ℕ) → Are acc → Are ys → zs ≡ ys → Withins Are (extend most acc ys) (extend more acc zs)
    unfolding extend
    extend_wide acc ys zs a b e =
        subst (λ (l : List ℕ). Withins Are (extend most acc ys) (extend more acc l)) (sym e)
        (within_if (leb (length acc + length ys) most) (leb (length acc + length ys) more) (acc ++ ys) (leb_wide (length acc + length ys) most more wide) (all_append (λ x. x < states σ) acc ys a b))

    pub open_all_later : (xs acc : List ℕ) → Are xs → Are acc → Withins Are (open_all most σ.states.words σ.members.words xs acc) (open_all more υ.states.words υ.members.words xs acc)
    unfolding open_all form
    open_all_later [] acc a b = same b
    open_all_later (x ∷ xs) acc a b =
        within_then (extend_wide acc _ _ b (opened_states g INTERSECT intersection refl x a.0) (opened_later INTERSECT intersection refl x a.0)) (λ l c. open_all_later xs l a.1 c)

    pub open_union_later : (xs acc : List ℕ) → Are xs → Are acc → Openings Are (open_union most σ.states.words σ.members.words xs acc) (open_union more υ.states.words υ.members.words xs acc)
    unfolding open_union form
    open_union_later [] acc a b = same b
    open_union_later (x ∷ xs) acc a b =
        subst (λ (j : ℕ). Openings Are (if eqb (kind σ x) TOP then top else first_part) (if eqb j TOP then top else second_part)) (sym (kind_later w x a.0)) (go (λ l c. open_union_later xs l a.1 c) (eqb (kind σ x) TOP))
      where
        first_part : Opened
        first_part = then_open (extend most acc (opened UNION σ.states.words σ.members.words x)) (open_union most σ.states.words σ.members.words xs)

        second_part : Opened
        second_part = then_open (extend more acc (opened UNION υ.states.words υ.members.words x)) (open_union more υ.states.words υ.members.words xs)

        go : ((l : List ℕ) → Are l → Openings Are (open_union most σ.states.words σ.members.words xs l) (open_union more υ.states.words υ.members.words xs l))
            → (b : Bool) → Openings Are (if b then top else first_part) (if b then top else second_part)
        go ih true = tops
        go ih false = open_then (extend_wide acc _ _ b (opened_states g UNION union refl x a.0) (opened_later UNION union refl x a.0)) ih

    -- any number
    abbrev Any : ℕ → Type 0
    Any n = Unit {0}

    pub count_all_later : (xs : List ℕ) (n : ℕ) → Are xs → Withins Any (count_all most σ.states.words xs n) (count_all more υ.states.words xs n)
    unfolding count_all count_one
    count_all_later [] n a = same tt
    count_all_later (x ∷ xs) n a =
        within_then
        (subst (λ (p : ℕ × ℕ). Withins Any (one (kind σ x) (second σ x) most) (one p.0 p.1 more)) (ap₂ (λ (i j : ℕ). (i, j)) (sym (kind_later w x a.0)) (sym (second_later w x a.0))) (go (eqb (kind σ x) UNION)))
        (λ m _. count_all_later xs m a.1)
      where
        one : ℕ → ℕ → ℕ → Within ℕ
        one k c most = if eqb k UNION then (if leb (n * c) most then within (n * c) else beyond) else within n

        go : (b : Bool)
            → Withins Any (if b then (if leb (n * second σ x) most then within (n * second σ x) else beyond) else within n) (if b then (if leb (n * second σ x) more then within (n * second σ x) else beyond) else within n)
        go true = within_if (leb (n * second σ x) most) (leb (n * second σ x) more) (n * second σ x) (leb_wide (n * second σ x) most more wide) tt
        go false = same tt

module _ {N : ℕ} {L : Limits} {σ : Aut} (g : WfAut N L σ) where
  united : (x : ℕ) → x < states σ → kind σ x ≡ UNION → Many σ x
  unfolding form
  united x l e = ok_as g UNION l e

  -- the member that a product takes of a Union
  place : (x : ℕ) → x < states σ → kind σ x ≡ UNION → (i : ℕ) → i % second σ x < second σ x
  place x l e i = mod-lt i (omega (arith, union_size g l e))

  pub product_are : (xs : List ℕ) (i : ℕ) → All (λ x. x < states σ) xs → All (λ x. x < states σ) (product σ.states.words σ.members.words xs i)
  unfolding product
  product_are [] i a = tt
  product_are (x ∷ xs) i a = go (λ j. product_are xs j a.1) (eqb (kind σ x) UNION) refl
    where
      go : ((j : ℕ) → All (λ x. x < states σ) (product σ.states.words σ.members.words xs j)) → (b : Bool) → eqb (kind σ x) UNION ≡ b
          → All (λ x. x < states σ) (if b then get_or σ.members.words (first σ x + i % second σ x) 0 ∷ product σ.states.words σ.members.words xs (i / second σ x) else x ∷ product σ.states.words σ.members.words xs i)
      go ih true q =
          let e : kind σ x ≡ UNION = eqb-true (kind σ x) UNION q in
          (omega (arith, all_word (λ y. y < x) σ.members.words (first σ x) (second σ x) (i % second σ x) (place x a.0 e i) (united x a.0 e).earlier, a.0), ih (i / second σ x))
      go ih false q = (a.0, ih i)

  pub product_later : {υ : Aut} → Later σ υ → (xs : List ℕ) (i : ℕ) → All (λ x. x < states σ) xs
      → product υ.states.words υ.members.words xs i ≡ product σ.states.words σ.members.words xs i
  unfolding product
  product_later w [] i a = refl
  product_later {υ} w (x ∷ xs) i a =
      (λ d. if eqb (kind_later w x a.0 d) UNION
      then get_or υ.members.words (first_later w x a.0 d + i % second_later w x a.0 d) 0 ∷ product υ.states.words υ.members.words xs (i / second_later w x a.0 d)
      else x ∷ product υ.states.words υ.members.words xs i)
      ∙ go (λ j. product_later w xs j a.1) (eqb (kind σ x) UNION) refl
    where
      go : ((j : ℕ) → product υ.states.words υ.members.words xs j ≡ product σ.states.words σ.members.words xs j) → (b : Bool) → eqb (kind σ x) UNION ≡ b
          → (if b then get_or υ.members.words (first σ x + i % second σ x) 0 ∷ product υ.states.words υ.members.words xs (i / second σ x) else x ∷ product υ.states.words υ.members.words xs i)
          ≡ (if b then get_or σ.members.words (first σ x + i % second σ x) 0 ∷ product σ.states.words σ.members.words xs (i / second σ x) else x ∷ product σ.states.words σ.members.words xs i)
      go ih true q =
          let e : kind σ x ≡ UNION = eqb-true (kind σ x) UNION q in
          ap₂ (λ (y : ℕ) (l : List ℕ). y ∷ l) (w.members (first σ x + i % second σ x) (omega (arith, place x a.0 e i, (united x a.0 e).inside))) (ih (i / second σ x))
      go ih false q = ap (λ (l : List ℕ). x ∷ l) (ih i)
