-- What holds of the definitions of specs/Wf.
use mathlib.Core.Path.{◌≡◌, refl, sym, ◌∙◌, ap, ap₂, subst}
use mathlib.Core.List.{List, [], ◌∷◌}
use Prim.Native.Nat.{ℕ, ◌+◌, ◌*◌, ◌≤◌, ◌<◌, max}
use native.Mathlib.Omega.{arith}
use native.Mathlib.Nat.{le_trans}
use lib.ListN.{get_or}
use Rattle.common.specs.Runs.{Table}
use Rattle.spp_steps.specs.Wf.{Ext, ValidAt}
use Rattle.spp_steps.proofs.Laws.{ext_refl, ext_trans, at_ext}
use Rattle.aut_steps.specs.Tables.{kind_of, op1, op2, nest, words, Limits, Aut, aut}
use Rattle.aut_steps.specs.Intern.{nest_l}
use Rattle.aut_steps.specs.Kinds.{Form, leaf, constant, one, two, many, nothing, form, operands_by}
use Rattle.aut_steps.specs.Ascending.{All}
use Rattle.aut_steps.proofs.ListLaws.{all_map, all_with, all_split}
use Rattle.aut_steps.proofs.Facts.{words_same}
use Rattle.aut_steps.specs.Wf.{states, kind, first, second, nesting, members, ExtS, ExtM, ExtAut, Ok, LastSpp, Meeting, WfAut}

pub exts_refl : (s : Table) → ExtS s s
exts_refl s = record { more = omega arith; len = refl; keep = λ i w l m. refl; beyond = λ j l. refl }

pub extm_refl : (s : Table) → ExtM s s
extm_refl s = record { more = omega arith; len = refl; keep = λ i l. refl; beyond = λ j l. refl }

pub grown_refl : (σ : Aut) → ExtAut σ σ
grown_refl σ = record { nodes = ext_refl σ.nodes; states = exts_refl σ.states; members = extm_refl σ.members }

pub grown_trans : {σ τ υ : Aut} → ExtAut σ τ → ExtAut τ υ → ExtAut σ υ
grown_trans {σ} {τ} {υ} p q = record {
  nodes = ext_trans p.nodes q.nodes;
  states = record {
    more = le_trans p.states.more q.states.more;
    len = q.states.len ∙ p.states.len;
    keep = λ i w l m. q.states.keep i w (le_trans l p.states.more) m ∙ p.states.keep i w l m;
    beyond = λ j l. q.states.beyond j l ∙ p.states.beyond j (omega (arith, q.states.more));
  };
  members = record {
    more = le_trans p.members.more q.members.more;
    len = q.members.len ∙ p.members.len;
    keep = λ i l. q.members.keep i (le_trans l p.members.more) ∙ p.members.keep i l;
    beyond = λ j l. q.members.beyond j l ∙ p.members.beyond j (le_trans q.members.more l);
  };
}

-- a step on relation nodes alone
pub grown_nodes : {σ : Aut} {t : Table} → Ext σ.nodes t → ExtAut σ (aut t σ.states σ.members)
grown_nodes {σ} e = record { nodes = e; states = exts_refl σ.states; members = extm_refl σ.members }

module _ {σ τ : Aut} (g : ExtAut σ τ) (x : ℕ) (l : x < states σ) where
  pub kind_grown : kind τ x ≡ kind σ x
  unfolding kind_of
  kind_grown =
      ap (λ (p : ℕ). get_or τ.states.words p 0) {x = 12 * x} {y = 12 * x + 0} (omega arith) ∙ g.states.keep x 0 l (omega arith)
      ∙ ap (λ (p : ℕ). get_or σ.states.words p 0) {x = 12 * x + 0} {y = 12 * x} (omega arith)

  pub first_grown : first τ x ≡ first σ x
  unfolding op1
  first_grown = g.states.keep x 1 l (omega arith)

  pub second_grown : second τ x ≡ second σ x
  unfolding op2
  second_grown = g.states.keep x 2 l (omega arith)

  pub nesting_grown : nesting τ x ≡ nesting σ x
  unfolding nest
  nesting_grown = g.states.keep x 3 l (omega arith)

  pub members_grown : first σ x + second σ x ≤ σ.members.count → members τ x ≡ members σ x
  members_grown f =
      ap₂ (words τ.members.words) first_grown second_grown
      ∙ words_same σ.members.words τ.members.words (first σ x) (second σ x) (λ i a b. g.members.keep i (omega arith))

pub state_grown : {σ τ : Aut} → ExtAut σ τ → {x : ℕ} → x < states σ → x < states τ
state_grown g l = le_trans l g.states.more

pub states_grown : {σ τ : Aut} → ExtAut σ τ → (xs : List ℕ) → All (λ x. x < states σ) xs → All (λ x. x < states τ) xs
states_grown g xs a = all_map xs (λ x l. state_grown g l) a

pub nest_l_grown : {σ τ : Aut} → ExtAut σ τ → (h : ℕ) (xs : List ℕ) → All (λ y. y < states σ) xs → nest_l τ.states.words h xs ≡ nest_l σ.states.words h xs
unfolding nest_l
nest_l_grown g h [] a = refl
nest_l_grown {σ} {τ} g h (x ∷ xs) a =
    ap (λ (e : ℕ). nest_l τ.states.words (max h e) xs) (nesting_grown g x a.0) ∙ nest_l_grown g (max h (nesting σ x)) xs a.1

-- a state of a kind is in order as that kind is
pub ok_as : {N : ℕ} {L : Limits} {σ : Aut} → WfAut N L σ → (k : ℕ) {x : ℕ} → x < states σ → kind σ x ≡ k → Ok (form {N = N} k) σ x
ok_as {N} {σ = σ} g k {x} l e = subst (λ (j : ℕ). Ok (form {N = N} j) σ x) e (g.ok x l)

-- what is in order stays in order
pub ok_grown : {N : ℕ} {σ τ : Aut} → ExtAut σ τ → (f : Form N) (x : ℕ) → x < states σ → Ok f σ x → Ok f τ x
ok_grown {N} {σ} {τ} g leaf x l o = record {
  handle = subst (ValidAt τ.nodes N) (sym (first_grown g x l)) (at_ext g.nodes N (first σ x) o.handle);
  unused = second_grown g x l ∙ o.unused;
  nested = nesting_grown g x l ∙ o.nested;
}
ok_grown g (constant r) x l o = record { unused1 = first_grown g x l ∙ o.unused1; unused2 = second_grown g x l ∙ o.unused2; nested = nesting_grown g x l ∙ o.nested }
ok_grown {σ} {τ} g (one c) x l o = record {
  earlier = omega (arith, first_grown g x l, o.earlier);
  unused = second_grown g x l ∙ o.unused;
  nested =
      nesting_grown g x l ∙ o.nested
      ∙ ap (λ (e : ℕ). e + 1) (sym (nesting_grown g (first σ x) (omega (arith, o.earlier))) ∙ ap (nesting τ) (sym (first_grown g x l)));
}
ok_grown {σ} {τ} g (two c) x l o = record {
  earlier1 = omega (arith, first_grown g x l, o.earlier1);
  earlier2 = omega (arith, second_grown g x l, o.earlier2);
  nested =
      nesting_grown g x l ∙ o.nested
      ∙ ap₂ (λ (a b : ℕ). max a b + 1)
      (sym (nesting_grown g (first σ x) (omega (arith, o.earlier1))) ∙ ap (nesting τ) (sym (first_grown g x l)))
      (sym (nesting_grown g (second σ x) (omega (arith, o.earlier2))) ∙ ap (nesting τ) (sym (second_grown g x l)));
}
ok_grown {σ} {τ} g (many c) x l o =
    let same : members τ x ≡ members σ x = members_grown g x l o.inside in
    record {
      inside = omega (arith, first_grown g x l, second_grown g x l, o.inside, g.members.more);
      earlier = subst (All (λ y. y < x)) (sym same) o.earlier;
      nested =
          nesting_grown g x l ∙ o.nested
          ∙ ap (λ (e : ℕ). e + 1) (sym (nest_l_grown g 0 (members σ x) (all_map (members σ x) (λ y m. omega arith) o.earlier)) ∙ ap (nest_l τ.states.words 0) (sym same));
    }
ok_grown g nothing x l o = absurd o

pub operands_grown : {N : ℕ} {σ τ : Aut} → ExtAut σ τ → (f : Form N) (x : ℕ) → x < states σ → Ok f σ x
    → operands_by f τ.states.words τ.members.words x ≡ operands_by f σ.states.words σ.members.words x
operands_grown g leaf x l o = ap₂ (λ (a b : ℕ). a ∷ b ∷ []) (first_grown g x l) (second_grown g x l)
operands_grown g (constant r) x l o = ap₂ (λ (a b : ℕ). a ∷ b ∷ []) (first_grown g x l) (second_grown g x l)
operands_grown g (one c) x l o = ap₂ (λ (a b : ℕ). a ∷ b ∷ []) (first_grown g x l) (second_grown g x l)
operands_grown g (two c) x l o = ap₂ (λ (a b : ℕ). a ∷ b ∷ []) (first_grown g x l) (second_grown g x l)
operands_grown g (many c) x l o = members_grown g x l o.inside
operands_grown g nothing x l o = absurd o

last_grown : {σ τ : Aut} → ExtAut σ τ → (xs : List ℕ) → All (λ y. y < states σ) xs → LastSpp σ.states.words xs → LastSpp τ.states.words xs
last_grown g [] a m = tt
last_grown g (x ∷ xs) a m = (kind_grown g x a.0 ∙ m.0, m.1)

pub meeting_grown : {σ τ : Aut} → ExtAut σ τ → (xs : List ℕ) → All (λ y. y < states σ) xs → Meeting σ.states.words xs → Meeting τ.states.words xs
meeting_grown {σ} {τ} g xs a m =
    let parts = all_split (λ y. y < states σ) m.others m.last (subst (All (λ y. y < states σ)) m.parts a) in
    record {
      others = m.others;
      last = m.last;
      parts = m.parts;
      some = m.some;
      rising = m.rising;
      no_spp = all_with m.others (λ y l f e. f (sym (kind_grown g y l) ∙ e)) parts.0 m.no_spp;
      spp_last = last_grown g m.last parts.1 m.spp_last;
    }
