-- `is_empty` (aut_query_steps' Search, netkat's search over handles) on longer tables, with no fewer pending entries: from tables in order, of a state that is there.
use Rattle.std.specs.Prelude.{if◌then◌else◌}
use mathlib.Core.Path.{◌≡◌, refl}
use mathlib.Core.Bool.{Bool, true, false}
use mathlib.Core.List.{List, [], ◌∷◌, map, Memᴰ}
use Prim.Native.Nat.{ℕ, zero, suc, ◌≤◌, ◌<◌}
use native.Mathlib.Omega.{arith}
use lib.Dec.{ltb}
use lib.ListN.{length}
use borrow.Author.Tests.{ltb-true, lt-ltb}
use Rattle.common.specs.Outcome.{Outcome, refused, return, after, Gives, gives, refusal}
use Rattle.spp_steps.proofs.Laws.{false_true}
use Rattle.netkat.specs.Lists.{State}
use Rattle.netkat_steps.specs.ListSteps.{Edge}
use Rattle.netkat_steps.specs.Handles as Handles
use Rattle.netkat_steps.specs.Handles.{Link, Entry}
use Rattle.sp_steps.specs.Model as Sp
use Rattle.aut_steps.specs.Tables.{Limits}
use Rattle.aut_steps.specs.Wf.{states}
use Rattle.aut_delta_steps.specs.Delta.{delta}
use Rattle.aut_delta_steps.specs.Wf.{WfStore}
use Rattle.aut_query_steps.specs.Tables.{Tables}
use Rattle.aut_query_steps.specs.Search.{capacity, link, machine, is_empty}
use Rattle.book_longer.specs.Longer.{LongerTables, no_entry, Follows, goes}
use Rattle.book_longer.proofs.Follow.{follows_bind, follows_map, Meets, lacks, meets, meets_bind, meets_given, meets_then, meets_same, meets_follow, meets_if, Same, same}
use Rattle.book_longer.proofs.Sets.{union_longer, difference_longer}
use Rattle.book_longer.proofs.Images.{push_longer, has_image_same}
use Rattle.book_longer.proofs.Queries.{Onward, both_nodes, on_sets_lem, making_sets_lem, epsilon_onward, delta_onward, targets_of, onward_all, onward_fewer}

-- every entry's state, every link's target is below m
abbrev pub Entries : ℕ → List (Entry ℕ) → Type 0
Entries m [] = Unit
Entries m (e ∷ es) = (e.state < m) × Entries m es

abbrev Links : ℕ → List (Link ℕ) → Type 0
Links m [] = Unit
Links m (l ∷ ls) = (l.target < m) × Links m ls

entries_more : {m n : ℕ} → m ≤ n → (es : List (Entry ℕ)) → Entries m es → Entries n es
entries_more l [] p = tt
entries_more l (e ∷ es) (q, p) = (omega arith, entries_more l es p)

links_of : {m : ℕ} (es : List Edge) → ((e : Edge) → Memᴰ e es → e.target < m) → Links m (map link es)
links_of [] f = tt
links_of (e ∷ es) f = (f e (Memᴰ.head refl), links_of es (λ d m. f d (Memᴰ.tail m)))

pub capacity_more : (lent more : ℕ) → lent ≤ more → capacity lent ≤ capacity more
capacity_more lent more l = omega arith

pub room_more : (n lent more : ℕ) → lent ≤ more → ltb n (capacity lent) ≡ true → ltb n (capacity more) ≡ true
room_more n lent more l e = lt-ltb n (capacity more) (omega (arith, ltb-true n (capacity lent) e, capacity_more lent more l))

module _ (N : ℕ) (L : Limits) (lent more : ℕ) (wide : lent ≤ more) where
  abbrev 𝓒 : Handles.Machine
  𝓒 = machine N L lent

  abbrev 𝓓 : Handles.Machine
  𝓓 = machine N L more

  put_meets : {n m : ℕ} {σ τ : Tables} (s x : ℕ) (pending : List (Entry ℕ)) → Onward N L n σ τ → s < m → Entries m pending
      → Meets (Onward N L n) (λ υ. Same (Entries m)) (Handles.put 𝓒 s x pending σ) (Handles.put 𝓓 s x pending τ)
  put_meets {n} {m} {σ} {τ} s x pending r k p = go (ltb (length pending) (capacity lent)) (ltb (length pending) (capacity more)) (room_more (length pending) lent more wide)
    where
      go : (b c : Bool) → (b ≡ true → c ≡ true) → Meets {A = List (Entry ℕ)} (Onward N L n) (λ υ. Same (Entries m))
          ((if b then return (record { state = s; packets = x } ∷ pending) else λ σ. refused 24) σ) ((if c then return (record { state = s; packets = x } ∷ pending) else λ σ. refused 24) τ)
      go true true f = meets r (same {a = record { state = s; packets = x } ∷ pending} (k, p))
      go true false f = absurd (false_true (f refl))
      go false c f = lacks no_entry

  walk_meets : {n m : ℕ} (fresh : ℕ) (links : List (Link ℕ)) (pending : List (Entry ℕ)) (σ τ : Tables) → Onward N L n σ τ → Links m links → Entries m pending
      → Meets (Onward N L n) (λ υ. Same (Entries m)) (Handles.walk 𝓒 fresh links pending σ) (Handles.walk 𝓓 fresh links pending τ)
  unfolding Handles.walk
  walk_meets fresh [] pending σ τ r ls es = meets r (same es)
  walk_meets {n} {m} fresh (t ∷ ts) pending σ τ r (k, ls) es =
      meets_bind (making_sets_lem (push_longer N N fresh t.label) σ τ r) (λ σ₁ τ₁ next r₁.
      meets_same (meets_if {E = λ υ. Same (Entries m)} {b = Sp.is_zero N next} (return pending) (Handles.put 𝓒 t.target next pending) (return pending) (Handles.put 𝓓 t.target next pending) {σ = σ₁} {τ = τ₁} refl
      (meets r₁ (same es)) (put_meets t.target next pending r₁ k es)) (λ σ₂ τ₂ fs r₂ p. walk_meets fresh ts fs σ₂ τ₂ r₂ ls p))

  -- a turn's end
  data SameTurn (σ : Tables) : Handles.Turn 𝓒 → Handles.Turn 𝓓 → Type 0 where
    going : {pending : List (Entry ℕ)} {seen : State → ℕ} → Entries (states σ.base.aut) pending → SameTurn σ (Handles.goes pending seen) (Handles.goes pending seen)
    finding : SameTurn σ Handles.found Handles.found

  onward_none : {n : ℕ} {σ τ : Tables} → Onward N L n σ τ → Onward N L 0 σ τ
  onward_none r = onward_fewer (omega arith) r

  expand_meets : (s fresh : ℕ) (rest : List (Entry ℕ)) (seen : State → ℕ) {n : ℕ} (σ τ : Tables) → Onward N L n σ τ → s < n → Entries n rest
      → Meets (Onward N L 0) SameTurn (Handles.expand 𝓒 s fresh rest seen σ) (Handles.expand 𝓓 s fresh rest seen τ)
  unfolding Handles.expand
  expand_meets s fresh rest seen {n} σ τ r k es =
      meets_bind (on_sets_lem (union_longer N (seen s) fresh) σ τ r) (λ σ₁ τ₁ both r₁.
      meets_bind (epsilon_onward s k σ₁ τ₁ r₁) (λ σ₂ τ₂ e r₂.
      meets_if (return Handles.found) _ (return Handles.found) _ (has_image_same N N fresh e (both_nodes r₂.longer))
      (meets (onward_none r₂) finding)
      (meets_given (links_gives σ₂ r₂) (links_follow σ₂ τ₂ r₂) (λ σ₃ τ₃ links q r₃.
      meets_same (walk_meets fresh links rest σ₃ τ₃ (onward_all r₃) q (entries_more r₃.more rest es)) (λ σ₄ τ₄ pending r₄ p. meets (onward_none r₄) (going (entries_more r₄.more pending p)))))))
    where
      links_follow : (σ₂ τ₂ : Tables) → Onward N L n σ₂ τ₂ → Follows (Onward N L n) (𝓒.delta s σ₂) (𝓓.delta s τ₂)
      links_follow σ₂ τ₂ r₂ = follows_bind (delta_onward s k σ₂ τ₂ r₂) (λ σ₃ τ₃ es r₃. goes r₃)

      links_gives : (σ₂ : Tables) {τ₂ : Tables} → Onward N L n σ₂ τ₂ → Gives (λ υ ls. Links (states υ.base.aut) ls) (𝓒.delta s σ₂)
      links_gives σ₂ r₂ = go (targets_of σ₂ r₂.worked (omega (arith, r₂.more)))
        where
          go : {o : Outcome Tables (List Edge)} → Gives (λ υ es. (e : Edge) → Memᴰ e es → e.target < states υ.base.aut) o → Gives (λ υ ls. Links (states υ.base.aut) ls) (after o (λ es. return (map link es)))
          go refusal = refusal
          go (gives {a = es} f) = gives (links_of es f)

  turn_meets : (entry : Entry ℕ) (rest : List (Entry ℕ)) (seen : State → ℕ) {n : ℕ} (σ τ : Tables) → Onward N L n σ τ → entry.state < n → Entries n rest
      → Meets (Onward N L 0) SameTurn (Handles.turn 𝓒 entry rest seen σ) (Handles.turn 𝓓 entry rest seen τ)
  unfolding Handles.turn
  turn_meets entry rest seen σ τ r k es =
      meets_bind (on_sets_lem (difference_longer N entry.packets (seen entry.state)) σ τ r) (λ σ₁ τ₁ fresh r₁.
      meets_if {b = Sp.is_zero N fresh} (return (Handles.goes rest seen)) _ (return (Handles.goes rest seen)) _ refl
      (meets (onward_none r₁) (going (entries_more r₁.more rest es)))
      (expand_meets entry.state fresh rest seen σ₁ τ₁ r₁ k es))

  run_follows : (left : ℕ) (entries : List (Entry ℕ)) (seen : State → ℕ) (count : ℕ) (σ τ : Tables) → Onward N L 0 σ τ → Entries (states σ.base.aut) entries
      → Follows (Onward N L 0) (Handles.run 𝓒 left entries seen count σ) (Handles.run 𝓓 left entries seen count τ)
  unfolding Handles.run
  run_follows zero [] seen count σ τ r es = goes r
  run_follows zero (entry ∷ rest) seen count σ τ r es = goes r
  run_follows (suc left) [] seen count σ τ r es = goes r
  run_follows (suc left) (entry ∷ rest) seen count σ τ r (k, es) =
      meets_then (turn_meets entry rest seen σ τ (onward_all r) k es) (λ σ₁ τ₁ t u r₁ q. onward σ₁ τ₁ (λ pending seen₁ p. run_follows left pending seen₁ (suc count) σ₁ τ₁ r₁ p) t u r₁ q)
    where
      onward : (σ₁ τ₁ : Tables)
          → ((pending : List (Entry ℕ)) (seen₁ : State → ℕ) → Entries (states σ₁.base.aut) pending → Follows (Onward N L 0) (Handles.run 𝓒 left pending seen₁ (suc count) σ₁) (Handles.run 𝓓 left pending seen₁ (suc count) τ₁))
          → (t : Handles.Turn 𝓒) (u : Handles.Turn 𝓓) → Onward N L 0 σ₁ τ₁ → SameTurn σ₁ t u
          → Follows (Onward N L 0) (Handles.onward 𝓒 (λ pending seen₁. Handles.run 𝓒 left pending seen₁ (suc count)) (suc count) t σ₁) (Handles.onward 𝓓 (λ pending seen₁. Handles.run 𝓓 left pending seen₁ (suc count)) (suc count) u τ₁)
      onward σ₁ τ₁ f _ _ r₁ (going {pending} {seen} p) = f pending seen p
      onward σ₁ τ₁ f _ _ r₁ finding = goes r₁

  search_follows : (budget s : ℕ) (σ τ : Tables) → Onward N L 0 σ τ → s < states σ.base.aut → Follows (Onward N L 0) (is_empty N L lent budget s σ) (is_empty N L more budget s τ)
  unfolding is_empty Handles.search
  search_follows budget s σ τ r k =
      meets_follow (put_meets s (Sp.one_at N) [] (onward_all r) k tt) (λ σ₁ τ₁ pending r₁ p. run_follows budget pending (λ t. Sp.zero_at N) 0 σ₁ τ₁ (onward_none r₁) (entries_more r₁.more pending p))

pub is_empty_follows : {N : ℕ} {L : Limits} {lent more : ℕ} → lent ≤ more → (budget s : ℕ) {σ τ : Tables} → WfStore N L σ.base → s < states σ.base.aut → LongerTables σ τ
    → Follows LongerTables (is_empty N L lent budget s σ) (is_empty N L more budget s τ)
is_empty_follows {N} {L} {lent} {more} wide budget s {σ} {τ} W k r =
    follows_map (λ υ ω p. p.longer) (search_follows N L lent more wide budget s σ τ (record { longer = r; worked = W; more = omega arith }) k)
