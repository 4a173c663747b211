-- 02 (ii), "from block 1, without gaps, come those records in that order": where the words of each table stand among the words of all records; and that all of them are words, below 2^32.
use mathlib.Core.Path.{◌≡◌, refl, sym, ◌∙◌, ap, subst}
use mathlib.Core.List.{List, [], ◌∷◌, ◌++◌}
use mathlib.Core.Option.{Option, none}
use mathlib.Core.Logic.{◌⊎◌, ⊎_elim}
use Prim.Native.Nat.{ℕ, zero, suc, ◌+◌, ◌*◌, ◌-◌, ◌/◌, ◌≤◌, ◌<◌}
use native.Mathlib.Omega.{arith}
use native.Mathlib.Nat.{le_trans}
use lib.ListN.{length, get_or, take, length-append, length-take, get_or-append, get_or-eq_default}
use lib.Seq.{get_or-take, length-take-le, get_or-append-add}
use Rattle.netkat.specs.Rules.{Rule}
use Rattle.common.specs.Runs.{Table}
use Rattle.sp_steps.specs.Wf as SpWf
use Rattle.spp_steps.specs.Wf as SppWf
use Rattle.spp_steps.proofs.Laws.{at_below}
use Rattle.aut_steps.specs.Tables.{UNION, INTERSECT, kind_of, op1, op2, nest, words, Limits, Aut}
use Rattle.aut_steps.specs.Kinds.{Form, leaf, constant, one, two, many, nothing, form}
use Rattle.aut_steps.specs.Wf.{states, kind, first, second, nesting, members, Ok, members_before, WfAut}
use Rattle.aut_steps.proofs.ListLaws.{all_at}
use Rattle.aut_steps.proofs.Facts.{words_length, some_word}
use Rattle.book_steps.specs.Meaning.{Matched, done, asked, made}
use Rattle.book_steps.specs.Run.{RunState, Setting}
use Rattle.image_steps.specs.Image.{start_of, layout, total, head_of, state_words, line_word, line_words, body_of}
use Rattle.image_steps.proofs.Before.{any_kind, kind_low, list_ok}
use Rattle.image_steps.proofs.States.{if_list, as_list, as_other}
use Rattle.image_steps.proofs.Lists.{split, get_or_behind, words_at}
use Rattle.image_steps.proofs.Nodes.{kid_word, kid_r_word}
use Rattle.image_steps.proofs.Copies.{states_length, states_at, lines_length}

abbrev pub WORD : ℕ
WORD = 4294967296

-- each is a word
abbrev pub Words : List ℕ → Type 0
Words xs = (i : ℕ) → get_or xs i 0 < WORD

words_append : (xs ys : List ℕ) → Words xs → Words ys → Words (xs ++ ys)
words_append xs ys a b i =
    ⊎_elim
    (λ l. subst (λ (v : ℕ). v < WORD) (sym (get_or-append xs ys 0 i l)) (a i))
    (λ l. subst (λ (v : ℕ). v < WORD) (sym (ap (λ (k : ℕ). get_or (xs ++ ys) k 0) {x = i} {y = length xs + (i - length xs)} (omega arith) ∙ get_or-append-add xs ys (i - length xs) 0)) (b (i - length xs)))
    (split i (length xs))

words_take : (n : ℕ) (t : List ℕ) → ((i : ℕ) → i < n → get_or t i 0 < WORD) → Words (take n t)
words_take n t f i =
    ⊎_elim
    (λ l. subst (λ (v : ℕ). v < WORD) (sym (get_or-take n t i 0 l)) (f i l))
    (λ l. subst (λ (v : ℕ). v < WORD) (sym (get_or-eq_default (take n t) 0 (omega (arith, length-take n t)))) (omega arith))
    (split i n)

-- ---- each table's words

node_word : {N : ℕ} {σ : Table} → SpWf.Wf N σ → (i : ℕ) → i < 2 * σ.count → get_or σ.words i 0 < WORD
node_word {σ} w i l = let (b, e) = kid_word i in omega (arith, e σ.words, w.rising b (i / 2) (omega arith), w.small)

relation_word : {N : ℕ} {σ : Table} → SppWf.Wf N σ → (i : ℕ) → i < 4 * σ.count → get_or σ.words i 0 < WORD
relation_word {σ} w i l = let (a, b, e) = kid_r_word i in omega (arith, e σ.words, w.nodes.rising (i / 4) (omega arith) a b, w.nodes.small)

-- a member is a state
member_word : {N : ℕ} {L : Limits} {σ : Aut} → WfAut N L σ → (n : ℕ) → n ≤ states σ → (i : ℕ) → i < members_before σ n → get_or σ.members.words i 0 < n
unfolding members_before form
member_word g zero l i m = absurd (omega arith)
member_word {N} {L} {σ} g (suc n) l i m =
    ⊎_elim
    (λ q. le_trans (member_word g n (omega arith) i q) (omega arith))
    (λ q. if_list (kind σ n) (from q) (λ f. absurd (omega (arith, as_other (kind σ n) (second σ n) 0 f))))
    (split i (members_before σ n))
  where
    from : members_before σ n ≤ i → UNION ≤ kind σ n → kind σ n ≤ INTERSECT → get_or σ.members.words i 0 < suc n
    from q lo hi =
        let j : i ≡ first σ n + (i - members_before σ n) = omega (arith, g.packed n l lo hi) in
        let v : get_or σ.members.words (first σ n + (i - members_before σ n)) 0 < n =
        all_at (λ y. y < n) (members σ n) (list_ok g n l lo hi).earlier
        (some_word (λ y. y ≡ get_or σ.members.words (first σ n + (i - members_before σ n)) 0) σ.members.words (first σ n) (second σ n) (i - members_before σ n) (omega (arith, as_list (kind σ n) (second σ n) 0 lo hi)) refl) in
        omega (arith, ap (λ (k : ℕ). get_or σ.members.words k 0) j)

operand_low : {N : ℕ} {L : Limits} {σ : Aut} → WfAut N L σ → (f : Form N) (x : ℕ) → x < states σ → Ok f σ x → (first σ x < WORD) × (second σ x < WORD)
operand_low {N} {σ = σ} g leaf x l o = (omega (arith, at_below σ.nodes N (first σ x) o.handle, g.nodes.nodes.small), omega (arith, o.unused))
operand_low g (constant r) x l o = (omega (arith, o.unused1), omega (arith, o.unused2))
operand_low g (one c) x l o = (omega (arith, o.earlier, g.small), omega (arith, o.unused))
operand_low g (two c) x l o = (omega (arith, o.earlier1, g.small), omega (arith, o.earlier2, g.small))
operand_low g (many c) x l o = (omega (arith, o.inside, g.members_small), omega (arith, o.inside, g.members_small))
operand_low g nothing x l o = absurd o

state_word : {N : ℕ} {L : Limits} {σ : Aut} → WfAut N L σ → L.nesting < WORD → (x : ℕ) → x < states σ → Words (words σ.states.words (12 * x) 4)
unfolding kind_of op1 op2 nest
state_word {N} {L} {σ} g d x l i =
    ⊎_elim (λ m. subst (λ (v : ℕ). v < WORD) (sym (words_at σ.states.words (12 * x) 4 i m)) (go i m))
    (λ m. subst (λ (v : ℕ). v < WORD) (sym (get_or-eq_default (words σ.states.words (12 * x) 4) 0 (omega (arith, words_length σ.states.words (12 * x) 4)))) (omega arith))
    (split i 4)
  where
    low : (first σ x < WORD) × (second σ x < WORD)
    low = operand_low g (form (kind σ x)) x l (g.ok x l)

    go : (j : ℕ) → j < 4 → get_or σ.states.words (12 * x + j) 0 < WORD
    go zero m = omega (arith, kind_low (any_kind g x l), ap (λ (k : ℕ). get_or σ.states.words k 0) {x = 12 * x + 0} {y = 12 * x} (omega arith))
    go (suc zero) m = low.0
    go (suc (suc zero)) m = low.1
    go (suc (suc (suc zero))) m = omega (arith, g.shallow x l)
    go (suc (suc (suc (suc j)))) m = absurd (omega arith)

states_words : {N : ℕ} {L : Limits} {σ : Aut} → WfAut N L σ → L.nesting < WORD → (n : ℕ) → n ≤ states σ → Words (state_words σ.states.words n)
unfolding state_words
states_words g d zero l i = omega arith
states_words {σ} g d (suc n) l i = words_append (state_words σ.states.words n) (words σ.states.words (12 * n) 4) (λ j. states_words g d n (omega arith) j) (state_word g d n l) i

-- a line is a state + 1, or 0
pub line_low : {N : ℕ} {σ : Aut} {lines : List (Option ℕ)} {R : List (Option (Rule N))} → Matched N σ lines R → (i : ℕ) → get_or (line_words lines) i 0 ≤ states σ
unfolding line_words
line_low done i = omega arith
line_low (asked m) zero = omega arith
line_low (asked m) (suc i) = line_low m i
line_low (made s m) zero = omega (arith, s.state)
line_low (made s m) (suc i) = line_low m i

-- ---- the records' words, by table

pub lines_at : (ls : List (Option ℕ)) (i : ℕ) → i < length ls → get_or (line_words ls) i 0 ≡ line_word (get_or ls i none)
unfolding line_words
lines_at [] i l = absurd (omega arith)
lines_at (x ∷ ls) zero l = refl
lines_at (x ∷ ls) (suc i) l = lines_at ls i (omega arith)

module _ (S : Setting) (L : Limits) (p : RunState) (sets : SpWf.Wf S.fields p.tables.sets) (g : WfAut S.fields L p.tables.base.aut) where
  abbrev σ : Aut
  σ = p.tables.base.aut

  abbrev sp : Table
  sp = p.tables.sets

  abbrev A : List ℕ
  A = take (2 * sp.count) sp.words

  abbrev B : List ℕ
  B = take (4 * σ.nodes.count) σ.nodes.words

  abbrev C : List ℕ
  C = take σ.members.count σ.members.words

  abbrev D : List ℕ
  D = state_words σ.states.words (states σ)

  abbrev E : List ℕ
  E = line_words p.lines

  length_A : length A ≡ 2 * sp.count
  length_A = length-take-le (2 * sp.count) sp.words sets.fits

  length_B : length B ≡ 4 * σ.nodes.count
  length_B = length-take-le (4 * σ.nodes.count) σ.nodes.words g.nodes.nodes.fits

  length_C : length C ≡ σ.members.count
  length_C = length-take-le σ.members.count σ.members.words g.members_fit

  pub body_length : length (body_of p) ≡ total (head_of S p)
  unfolding start_of
  body_length =
      omega (
        arith,
        length-append A (B ++ (C ++ (D ++ E))),
        length-append B (C ++ (D ++ E)),
        length-append C (D ++ E),
        length-append D E,
        length_A,
        length_B,
        length_C,
        states_length σ.states.words (states σ),
        lines_length p.lines,
      )

  pub body_words : L.nesting < WORD → {R : List (Option (Rule S.fields))} → Matched S.fields σ p.lines R → Words (body_of p)
  body_words d m =
      words_append A (B ++ (C ++ (D ++ E))) (words_take (2 * sp.count) sp.words (node_word sets))
      (words_append B (C ++ (D ++ E)) (words_take (4 * σ.nodes.count) σ.nodes.words (relation_word g.nodes))
      (words_append C (D ++ E) (words_take σ.members.count σ.members.words (λ i l. omega (arith, member_word g (states σ) (omega arith) i (omega (arith, g.counted)), g.small)))
      (words_append D E (states_words g d (states σ) (omega arith)) (λ i. omega (arith, line_low m i, g.small)))))

  pub body_sp : (i : ℕ) → i < 2 * sp.count → get_or (body_of p) i 0 ≡ get_or sp.words i 0
  body_sp i l = get_or-append A (B ++ (C ++ (D ++ E))) 0 i (omega (arith, length_A)) ∙ get_or-take (2 * sp.count) sp.words i 0 l

  pub body_spp : (i : ℕ) → i < 4 * σ.nodes.count → get_or (body_of p) (start_of 1 (layout (head_of S p)) + i) 0 ≡ get_or σ.nodes.words i 0
  unfolding start_of
  body_spp i l =
      get_or_behind A (B ++ (C ++ (D ++ E))) i (sp.count * 2 + 0) (omega (arith, length_A))
      ∙ get_or-append B (C ++ (D ++ E)) 0 i (omega (arith, length_B)) ∙ get_or-take (4 * σ.nodes.count) σ.nodes.words i 0 l

  pub body_members : (i : ℕ) → i < σ.members.count → get_or (body_of p) (start_of 2 (layout (head_of S p)) + i) 0 ≡ get_or σ.members.words i 0
  unfolding start_of
  body_members i l =
      ap (λ (j : ℕ). get_or (body_of p) j 0) {x = start_of 2 (layout (head_of S p)) + i} {y = 2 * sp.count + (4 * σ.nodes.count + i)} (omega arith)
      ∙ get_or_behind A (B ++ (C ++ (D ++ E))) (4 * σ.nodes.count + i) (2 * sp.count) length_A
      ∙ get_or_behind B (C ++ (D ++ E)) i (4 * σ.nodes.count) length_B
      ∙ get_or-append C (D ++ E) 0 i (omega (arith, length_C)) ∙ get_or-take σ.members.count σ.members.words i 0 l

  pub body_state : (x w : ℕ) → x < states σ → w < 4 → get_or (body_of p) (start_of 3 (layout (head_of S p)) + 4 * x + w) 0 ≡ get_or σ.states.words (12 * x + w) 0
  unfolding start_of
  body_state x w l m =
      ap (λ (j : ℕ). get_or (body_of p) j 0) {x = start_of 3 (layout (head_of S p)) + 4 * x + w} {y = 2 * sp.count + (4 * σ.nodes.count + (σ.members.count + (4 * x + w)))} (omega arith)
      ∙ get_or_behind A (B ++ (C ++ (D ++ E))) (4 * σ.nodes.count + (σ.members.count + (4 * x + w))) (2 * sp.count) length_A
      ∙ get_or_behind B (C ++ (D ++ E)) (σ.members.count + (4 * x + w)) (4 * σ.nodes.count) length_B
      ∙ get_or_behind C (D ++ E) (4 * x + w) σ.members.count length_C
      ∙ get_or-append D E 0 (4 * x + w) (omega (arith, states_length σ.states.words (states σ))) ∙ states_at σ.states.words (states σ) x w l m

  pub body_line : (i : ℕ) → i < length p.lines → get_or (body_of p) (start_of 4 (layout (head_of S p)) + i) 0 ≡ line_word (get_or p.lines i none)
  unfolding start_of
  body_line i l =
      ap (λ (j : ℕ). get_or (body_of p) j 0) {x = start_of 4 (layout (head_of S p)) + i} {y = 2 * sp.count + (4 * σ.nodes.count + (σ.members.count + (4 * states σ + i)))} (omega arith)
      ∙ get_or_behind A (B ++ (C ++ (D ++ E))) (4 * σ.nodes.count + (σ.members.count + (4 * states σ + i))) (2 * sp.count) length_A
      ∙ get_or_behind B (C ++ (D ++ E)) (σ.members.count + (4 * states σ + i)) (4 * σ.nodes.count) length_B
      ∙ get_or_behind C (D ++ E) (4 * states σ + i) σ.members.count length_C
      ∙ get_or_behind D E i (4 * states σ) (states_length σ.states.words (states σ)) ∙ lines_at p.lines i l
