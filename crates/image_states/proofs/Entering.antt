-- A record that is entered: what each way through comes to.
use Rattle.std.specs.Prelude.{if◌then◌else◌, Result, Ok, Err}
use mathlib.Core.Path.{◌≡◌, refl, sym, ◌∙◌, ap, subst}
use mathlib.Core.Bool.{Bool, true, false}
use mathlib.Core.List.{List}
use mathlib.Core.Logic.{◌⊎◌, inl, inr}
use Prim.Native.Nat.{ℕ, ◌<◌}
use borrow.Author.Tests.{eq-eqb, ne_eqb}
use Rattle.common.specs.Outcome.{Outcome, refused, Step}
use Rattle.common.specs.Runs.{Table, placed}
use Rattle.refusal.specs.declared.Refusal.{Refusal}
use Rattle.refusal.specs.declared.Refusal.TheVariants.{Record}
use Rattle.aut_steps.specs.Tables.{SPP, UNION, INTERSECT, XOR, DIFFERENCE, COMPLEMENT, SEQUENCE, STAR, DUP, UNTIL, TOP, Aut, aut, exprs, put_states, put_exprs, on_states, on_exprs}
use Rattle.aut_steps.specs.Tables.{Limits as Bounds}
use Rattle.aut_steps.specs.Intern.{intern0, intern1, intern2, intern_l}
use Rattle.aut_steps.specs.Ascending.{All}
use Rattle.aut_steps.specs.Wf.{WfAut}
use Rattle.aut_states.specs.declared.Config.{Config}
use Rattle.aut_states.specs.declared.States.{States}
use Rattle.aut_states.specs.declared.Members.{Members}
use Rattle.aut_states.specs.Clauses.{limits_of, states_of, members_of, exprs_of, seen, Ready1, Ready2, ListAsked}
use Rattle.aut_relations.specs.declared.Aut.{Aut as Lent}
use Rattle.aut_relations.specs.Lent.{states_in, aut_in}
use Rattle.aut_relations.proofs.Order.{ready_complement, ready_star, ready_xor, ready_difference, ready_sequence, ready_until}
use Rattle.aut_union.proofs.Calls.{union_asked, intersect_asked}
use Rattle.image_steps.specs.Records.{state_fits, interned}
use Rattle.image_kinds.proofs.Whole as Whole
use Rattle.image_kinds.proofs.Lists.{all_below_lem}
use Rattle.image_kinds.specs.declared.Words.{Words}
use Rattle.image_states.specs.Clauses.{listed, made, Wants, Enters, EntersList}

-- ---- want

pub wants_this : (n i : ℕ) → i ≡ n → Wants n i (Ok i)
wants_this n i e = record { is = λ N L σ. simp (eq-eqb i n e) }

pub wants_other : (n i : ℕ) → (i ≡ n → ⊥) → Wants n i (Err Record)
wants_other n i e = record { is = λ N L σ. simp (ne_eqb i n e) }

-- ---- a record that fits, and one that does not

module _ (N : ℕ) (L : Bounds) (xs : List ℕ) (k x y e : ℕ) (σ : Aut) where
  pub made_no : state_fits N L σ xs k x y e ≡ false → made N L xs k x y e σ ≡ refused 32
  made_no q = ap (λ (b : Bool). if b then interned N L xs k x y σ else refused 32) q

  made_yes : state_fits N L σ xs k x y e ≡ true → (o : Outcome Aut ℕ) → interned N L xs k x y σ ≡ o → made N L xs k x y e σ ≡ o
  made_yes q o w = ap (λ (b : Bool). if b then interned N L xs k x y σ else refused 32) q ∙ w

  -- the last step of its constructor
  pub enters_atom : (k ≡ SPP) ⊎ ((k ≡ DUP) ⊎ (k ≡ TOP)) → interned N L xs k x y σ ≡ on_states (intern0 k x) σ
  unfolding interned
  enters_atom (inl q) = ap (λ (k : ℕ). interned N L xs k x y σ) q ∙ ap (λ (k : ℕ). on_states (intern0 k x) σ) (sym q)
  enters_atom (inr (inl q)) = ap (λ (k : ℕ). interned N L xs k x y σ) q ∙ ap (λ (k : ℕ). on_states (intern0 k x) σ) (sym q)
  enters_atom (inr (inr q)) = ap (λ (k : ℕ). interned N L xs k x y σ) q ∙ ap (λ (k : ℕ). on_states (intern0 k x) σ) (sym q)

  pub enters_single : (k ≡ COMPLEMENT) ⊎ (k ≡ STAR) → interned N L xs k x y σ ≡ on_states (intern1 L k x) σ
  unfolding interned
  enters_single (inl q) = ap (λ (k : ℕ). interned N L xs k x y σ) q ∙ ap (λ (k : ℕ). on_states (intern1 L k x) σ) (sym q)
  enters_single (inr q) = ap (λ (k : ℕ). interned N L xs k x y σ) q ∙ ap (λ (k : ℕ). on_states (intern1 L k x) σ) (sym q)

  pub enters_pair : ((k ≡ XOR) ⊎ (k ≡ DIFFERENCE)) ⊎ ((k ≡ SEQUENCE) ⊎ (k ≡ UNTIL)) → interned N L xs k x y σ ≡ on_states (intern2 L k x y) σ
  unfolding interned
  enters_pair (inl (inl q)) = ap (λ (k : ℕ). interned N L xs k x y σ) q ∙ ap (λ (k : ℕ). on_states (intern2 L k x y) σ) (sym q)
  enters_pair (inl (inr q)) = ap (λ (k : ℕ). interned N L xs k x y σ) q ∙ ap (λ (k : ℕ). on_states (intern2 L k x y) σ) (sym q)
  enters_pair (inr (inl q)) = ap (λ (k : ℕ). interned N L xs k x y σ) q ∙ ap (λ (k : ℕ). on_states (intern2 L k x y) σ) (sym q)
  enters_pair (inr (inr q)) = ap (λ (k : ℕ). interned N L xs k x y σ) q ∙ ap (λ (k : ℕ). on_states (intern2 L k x y) σ) (sym q)

  pub enters_list : (k ≡ UNION) ⊎ (k ≡ INTERSECT) → interned N L xs k x y σ ≡ on_exprs (intern_l L k xs) σ
  unfolding interned
  enters_list (inl q) = ap (λ (k : ℕ). interned N L xs k x y σ) q ∙ ap (λ (k : ℕ). on_exprs (intern_l L k xs) σ) (sym q)
  enters_list (inr q) = ap (λ (k : ℕ). interned N L xs k x y σ) q ∙ ap (λ (k : ℕ). on_exprs (intern_l L k xs) σ) (sym q)

-- an answer on some tables, as one on all
placed_seen : {S B : Type 0} (put : S → B → B) (σ : B) (τ : S) (r : Result ℕ Refusal) → placed put σ (seen r τ) ≡ seen r (put τ σ)
placed_seen put σ τ (Ok i) = refl
placed_seen put σ τ (Err e) = refl

-- ---- a record without a list

module _ (k : Config) (w : Words) (xs : List ℕ) (x : Lent) where
  abbrev FitsAs : Bool → Type 0
  FitsAs b = state_fits k.fields (limits_of k.limits) (aut_in x) xs w.kind w.first w.second w.nesting ≡ b

  -- it does not fit
  pub entered_no : FitsAs false → (y : Lent) → Enters k w xs x (Err Record) y
  entered_no f y = made_no k.fields (limits_of k.limits) xs w.kind w.first w.second w.nesting (aut_in x) f

  -- it fits, and is entered by the step o
  pub entered : FitsAs true → (o : Step Table ℕ) → interned k.fields (limits_of k.limits) xs w.kind w.first w.second (aut_in x) ≡ on_states o (aut_in x)
      → (r : Result ℕ Refusal) (t : Table) → o (states_in x) ≡ seen r t → made k.fields (limits_of k.limits) xs w.kind w.first w.second w.nesting (aut_in x) ≡ seen r (put_states t (aut_in x))
  entered f o i r t q = made_yes k.fields (limits_of k.limits) xs w.kind w.first w.second w.nesting (aut_in x) f _ (i ∙ ap (placed put_states (aut_in x)) q ∙ placed_seen put_states (aut_in x) t r)

-- what interning asks of the tables
module _ {N : ℕ} {L : Bounds} {σ : Aut} (g : WfAut N L σ) (k x y : ℕ) where
  abbrev st : List ℕ
  st = σ.states.words

  abbrev n : ℕ
  n = σ.states.count

  pub single_ready : (k ≡ COMPLEMENT) ⊎ (k ≡ STAR) → x < n → Ready1 st n k x
  single_ready (inl q) l = subst (λ (k : ℕ). Ready1 st n k x) (sym q) (ready_complement g l)
  single_ready (inr q) l = subst (λ (k : ℕ). Ready1 st n k x) (sym q) (ready_star g l)

  pub pair_ready : ((k ≡ XOR) ⊎ (k ≡ DIFFERENCE)) ⊎ ((k ≡ SEQUENCE) ⊎ (k ≡ UNTIL)) → (x < n) × (y < n) → Ready2 st n k x y
  pair_ready (inl (inl q)) (l, m) = subst (λ (k : ℕ). Ready2 st n k x y) (sym q) (ready_xor g l m)
  pair_ready (inl (inr q)) (l, m) = subst (λ (k : ℕ). Ready2 st n k x y) (sym q) (ready_difference g l m)
  pair_ready (inr (inl q)) (l, m) = subst (λ (k : ℕ). Ready2 st n k x y) (sym q) (ready_sequence g l m)
  pair_ready (inr (inr q)) (l, m) = subst (λ (k : ℕ). Ready2 st n k x y) (sym q) (ready_until g l m)

-- ---- kinds

-- which have a list
module _ {k : ℕ} where
  pub list_kind : (k ≡ UNION) ⊎ (k ≡ INTERSECT) → listed k ≡ true
  list_kind (inl q) = ap listed q
  list_kind (inr q) = ap listed q

-- ---- a record with a list

module _ (k : Config) (w : Words) (xs : List ℕ) {st : States} {mem : Members} where
  pub list_not : {st' : States} {mem' : Members} → ((t : Table) → state_fits k.fields (limits_of k.limits) (aut t (states_of st) (members_of mem)) xs w.kind w.first w.second w.nesting ≡ false)
      → EntersList k w xs st mem (Err Record) st' mem'
  list_not f = record { is = λ t. made_no k.fields (limits_of k.limits) xs w.kind w.first w.second w.nesting (aut t (states_of st) (members_of mem)) (f t) }

  pub list_entered : (w.kind ≡ UNION) ⊎ (w.kind ≡ INTERSECT) → ((t : Table) → state_fits k.fields (limits_of k.limits) (aut t (states_of st) (members_of mem)) xs w.kind w.first w.second w.nesting ≡ true)
      → {r : Result ℕ Refusal} {st' : States} {mem' : Members} → intern_l (limits_of k.limits) w.kind xs (exprs_of st mem) ≡ seen r (exprs_of st' mem') → EntersList k w xs st mem r st' mem'
  list_entered q f {r} {st'} {mem'} e = record {
    is = λ t.
        let σ : Aut = aut t (states_of st) (members_of mem) in
        made_yes k.fields (limits_of k.limits) xs w.kind w.first w.second w.nesting σ (f t) _
        (enters_list k.fields (limits_of k.limits) xs w.kind w.first w.second w.nesting σ q ∙ ap (placed put_exprs σ) e ∙ placed_seen put_exprs σ (exprs_of st' mem') r);
  }

-- what interning asks of the list
pub list_ready : {N : ℕ} {L : Bounds} {σ : Aut} → WfAut N L σ → (xs : List ℕ) (k x y e : ℕ) → (k ≡ UNION) ⊎ (k ≡ INTERSECT) → state_fits N L σ xs k x y e ≡ true → ListAsked (exprs σ.states σ.members) k xs
list_ready {N} {L} {σ} g xs k x y e q f = go q
  where
    a : All (λ (z : ℕ). z < σ.states.count) xs
    a = all_below_lem σ.states.count xs (Whole.fits_below N L σ xs k x y e q f)

    go : (k ≡ UNION) ⊎ (k ≡ INTERSECT) → ListAsked (exprs σ.states σ.members) k xs
    go (inl p) = subst (λ (z : ℕ). ListAsked (exprs σ.states σ.members) z xs) (sym p) (union_asked g a)
    go (inr p) = subst (λ (z : ℕ). ListAsked (exprs σ.states σ.members) z xs) (sym p) (intersect_asked g a)
