-- What tables in order give to the functions on lists and states.
use mathlib.Core.Path.{◌≡◌, refl, subst}
use mathlib.Core.List.{List}
use Prim.Native.Nat.{ℕ, ◌+◌, ◌*◌, ◌≤◌, ◌<◌}
use native.Mathlib.Omega.{arith}
use lib.ListN.{length}
use Rattle.netkat.specs.Rules.{Rule, xor, difference, complement, sequence, star, next, until}
use Rattle.aut_steps.specs.Tables.{UNION, INTERSECT, XOR, DIFFERENCE, COMPLEMENT, SEQUENCE, STAR, NEXT, UNTIL, Limits, Aut, state_cap}
use Rattle.aut_steps.specs.Kinds.{Form, one, two, form}
use Rattle.aut_steps.specs.Ascending.{All}
use Rattle.aut_steps.proofs.ListLaws.{all_map}
use Rattle.aut_steps.proofs.Products.{union_size}
use Rattle.aut_steps.specs.Wf.{states, kind, first, second, Ok, ExtAut, WfAut}
use Rattle.aut_steps.proofs.Wf.{ok_as}
use Rattle.aut_steps.proofs.StateLaws as StateLaws
use Rattle.aut_states.specs.declared.Limits.{Limits as Bounds}
use Rattle.aut_states.specs.Clauses.{limits_of, Fits, Ready1, Ready2}
use Rattle.aut_scratch.specs.Clauses.{OpenAt, ProductAt}
use Rattle.aut_relations.specs.Behind.{Modifies, CacheReady}
use Rattle.aut_relations.proofs.Behind.{backed_left}
use Rattle.aut_relations.specs.Clauses.{Ready, RelAt}

module _ {N : ℕ} {L : Limits} {σ : Aut} (g : WfAut N L σ) where
  abbrev st : List ℕ
  st = σ.states.words

  abbrev mem : List ℕ
  mem = σ.members.words

  pub fits : Fits st (states σ)
  fits = record { fits = g.fits; small = g.small }

  pub in_table : {x : ℕ} → x < states σ → 12 * x + 11 < length st
  in_table l = omega (arith, g.fits)

  pub below : (xs : List ℕ) → All (λ x. x < states σ) xs → All (λ x. 12 * x + 11 < length st) xs
  below xs a = all_map xs (λ x l. in_table l) a

  pub small : (xs : List ℕ) → All (λ x. x < states σ) xs → All (λ x. x < state_cap) xs
  small xs a = all_map xs (λ x l. omega (arith, g.small)) a

  union_inside : {x : ℕ} → x < states σ → kind σ x ≡ UNION → first σ x + second σ x ≤ length mem
  unfolding form
  union_inside {x} l e = omega (arith, (ok_as g UNION l e).inside, g.members_fit)

  intersect_inside : {x : ℕ} → x < states σ → kind σ x ≡ INTERSECT → first σ x + second σ x ≤ length mem
  unfolding form
  intersect_inside {x} l e = omega (arith, (ok_as g INTERSECT l e).inside, g.members_fit)

  pub open_union_at : (xs : List ℕ) → All (λ x. x < states σ) xs → All (OpenAt st mem UNION) xs
  open_union_at xs a = all_map xs (λ x l. record { state = in_table l; list = union_inside l }) a

  pub open_all_at : (xs : List ℕ) → All (λ x. x < states σ) xs → All (OpenAt st mem INTERSECT) xs
  open_all_at xs a = all_map xs (λ x l. record { state = in_table l; list = intersect_inside l }) a

  pub product_at : (xs : List ℕ) → All (λ x. x < states σ) xs → All (ProductAt st mem) xs
  product_at xs a = all_map xs (λ x l. record {
    state = in_table l;
    some = λ e. omega (arith, union_size g l e);
    list = union_inside l;
  }) a

  pub rel_at : {x : ℕ} → x < states σ → RelAt N σ.nodes st x
  rel_at l = record { state = in_table l; handle = λ e. StateLaws.handle g l e }

  -- ---- operands are earlier states

  one_ready : (k : ℕ) (r : Rule N → Rule N) → form {N = N} k ≡ one r → {x : ℕ} → x < states σ → Ready1 st (states σ) k x
  one_ready k r q l = record { fits = fits; has_x = l; earlier = λ i m e. (subst (λ (f : Form N). Ok f σ i) q (ok_as g k m e)).earlier }

  two_ready : (k : ℕ) (r : Rule N → Rule N → Rule N) → form {N = N} k ≡ two r → {x y : ℕ} → x < states σ → y < states σ → Ready2 st (states σ) k x y
  two_ready k r q l l' = record { fits = fits; has_x = l; has_y = l'; earlier = λ i m e. let o = subst (λ (f : Form N). Ok f σ i) q (ok_as g k m e) in (o.earlier1, o.earlier2) }

  pub ready_complement : {x : ℕ} → x < states σ → Ready1 st (states σ) COMPLEMENT x
  unfolding form
  ready_complement l = one_ready COMPLEMENT complement refl l

  pub ready_star : {x : ℕ} → x < states σ → Ready1 st (states σ) STAR x
  unfolding form
  ready_star l = one_ready STAR star refl l

  pub ready_next : {x : ℕ} → x < states σ → Ready1 st (states σ) NEXT x
  unfolding form
  ready_next l = one_ready NEXT next refl l

  pub ready_xor : {x y : ℕ} → x < states σ → y < states σ → Ready2 st (states σ) XOR x y
  unfolding form
  ready_xor l m = two_ready XOR xor refl l m

  pub ready_difference : {x y : ℕ} → x < states σ → y < states σ → Ready2 st (states σ) DIFFERENCE x y
  unfolding form
  ready_difference l m = two_ready DIFFERENCE difference refl l m

  pub ready_sequence : {x y : ℕ} → x < states σ → y < states σ → Ready2 st (states σ) SEQUENCE x y
  unfolding form
  ready_sequence l m = two_ready SEQUENCE sequence refl l m

  pub ready_until : {x y : ℕ} → x < states σ → y < states σ → Ready2 st (states σ) UNTIL x y
  unfolding form
  ready_until l m = two_ready UNTIL until refl l m

-- scratch and nodes
pub backed_of : {N : ℕ} {l : Bounds} {σ : Aut} {s : List ℕ} → Ready N l σ s → CacheReady N σ.nodes s
backed_of r = record { few = r.few; wf = r.good.nodes; room = r.room; sound = r.sound }

-- later tables, and scratch as it is left
pub ready_after : {N : ℕ} {l : Bounds} {σ τ : Aut} {s s' : List ℕ} {a n : ℕ} → Ready N l σ s → ExtAut σ τ → WfAut N (limits_of l) τ → Modifies N a n τ.nodes s s' → length s' ≡ length s → Ready N l τ s'
ready_after r w g p len =
    let b = backed_left (backed_of r) w.nodes g.nodes p len in
    record { few = r.few; good = g; room = b.room; sound = b.sound; list = r.list; products = r.products }
