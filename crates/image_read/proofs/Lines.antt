-- Members and lines, one record after the other, block by block.
use Rattle.std.specs.Prelude.{if◌then◌else◌, Result, Ok, Err}
use Rattle.std.specs.Prelude as code
use mathlib.Core.Path.{◌≡◌, refl, sym, ◌∙◌, ap, subst}
use mathlib.Core.Bool.{Bool}
use mathlib.Core.List.{List, [], ◌∷◌, ◌++◌}
use mathlib.Core.Option.{Option, none, some}
use Prim.Native.Nat.{ℕ, zero, suc, ◌+◌, ◌-◌, ◌≤◌, ◌<◌}
use native.Mathlib.Omega.{arith}
use lib.Dec.{leb}
use lib.ListN.{get_or, set}
use lib.Seq.{get_or-set_other}
use borrow.Author.Tests.{le-leb, lt-leb}
use Rattle.common.specs.Outcome.{Outcome, refused, given, Step, after, ◌>>=◌}
use Rattle.aut_steps.specs.Tables.{Limits}
use Rattle.book_steps.specs.Run.{RunState, place}
use Rattle.refusal.specs.declared.Refusal.{Refusal}
use Rattle.refusal.specs.declared.Refusal.TheVariants.{Record}
use Rattle.refusal.specs.Numbers.{number_of}
use Rattle.image_steps.specs.Image as Image
use Rattle.image_steps.specs.Read as Read
use Rattle.image_steps.specs.Read.{records, line_of}
use Rattle.image_words.specs.Clauses.{word_of, entered_by, Entered}
use Rattle.image_nodes.proofs.Rows.{turn_at, records_more, records_stop, records_end}
use Rattle.book_memory.specs.declared.Lines.{Lines}
use Rattle.book_memory.specs.Place.{stands_for, lines_at, Below}
use Rattle.book_memory.specs.Place.{word_of as line_word}
use Rattle.book_memory.proofs.Table.{below_more}
use Rattle.book_begin.proofs.Zero.{no_lines}
use Rattle.image_read.specs.Clauses.{PostMembers, PostLine, PreLines, PostLines}

-- a step more, behind two
pub after_both : (o : Outcome RunState ℕ) (f k : Step RunState ℕ) → after o (λ _ p. after (f p) (λ _. k)) ≡ after (after o (λ _. f)) (λ _. k)
after_both (refused number) f k = refl
after_both (given p x) f k = refl

-- ---- members

-- i of k members are passed
abbrev pub MembersAt : List ℕ → (s k i : ℕ) → Type 0
MembersAt image s k i = (h : Image.Head) (L : Limits) (p : RunState)
    → records image h L (Read.member image h L) 1 0 s k p ≡ records image h L (Read.member image h L) 1 i (s + i) (k - i) p

module _ (image : List ℕ) (s k : ℕ) where
  pub members_begin : MembersAt image s k 0
  members_begin h L p =
      ap (λ (m : ℕ). records image h L (Read.member image h L) 1 0 s m p) {x = k} {y = k - 0} (omega arith)
      ∙ ap (λ (m : ℕ). records image h L (Read.member image h L) 1 0 m (k - 0) p) {x = s} {y = s + 0} (omega arith)

  module _ (i : ℕ) (w : MembersAt image s k i) where
    module _ (l : i < k) {r : Result Unit Refusal} (e : Entered image (s + i) 1 r) where
      turned : (h : Image.Head) (L : Limits) (p : RunState) {x : Result Unit Refusal} → r ≡ x → turn_at image h L (Read.member image h L) 1 i (s + i) p ≡ after (entered_by x p) (λ _ q. given q 0)
      turned h L p q = ap (λ (o : Outcome RunState ℕ). after o (λ _ q. given q 0)) (e h L p ∙ ap (λ (x : Result Unit Refusal). entered_by x p) q)

      pub members_again : r ≡ Ok tt → MembersAt image s k (i + 1)
      members_again q h L p = w h L p ∙ records_more image h L (Read.member image h L) 1 i (s + i) (s + (i + 1)) k p p 0 l (omega arith) (turned h L p q)

      pub members_stop : {e : Refusal} → r ≡ Err e → PostMembers image s k (Err e)
      members_stop {e} q h L p = w h L p ∙ records_stop image h L (Read.member image h L) 1 i (s + i) k p (number_of e) l (turned h L p q)

    pub members_end : k ≤ i → PostMembers image s k (Ok tt)
    members_end l h L p = w h L p ∙ records_end image h L (Read.member image h L) 1 i (s + i) k p l

-- ---- a line

line_stands : (w : ℕ) → line_of w ≡ stands_for w
line_stands zero = refl
line_stands (suc x) = refl

-- a word less 1, if it is not 0, has this word
less_word : (w : ℕ) (l : code.Option ℕ) → code.SomeIff l (1 ≤ w) (w - 1) → line_word l ≡ w
less_word w (code.Some x) (n, e) = omega arith
less_word w code.None n = omega arith

stands_below : (w n x : ℕ) → w ≤ n → stands_for w ≡ some x → x < n
stands_below zero n x l e = absurd (let z : ◌≡◌ {A = ℕ} 0 1 = cc in omega arith)
stands_below (suc y) n x l e = let z : y ≡ x = cc in omega arith

module _ (image : List ℕ) (s states : ℕ) {r : Result Unit Refusal} (e : Entered image s 1 r) where
  entering : (h : Image.Head) (L : Limits) (i : ℕ) (p : RunState) {x : Result Unit Refusal} → r ≡ x → (Read.enter image h L s 1 >>= λ _. Read.line image h L i s) p ≡ after (entered_by x p) (λ _. Read.line image h L i s)
  entering h L i p q = ap (λ (o : Outcome RunState ℕ). after o (λ _. Read.line image h L i s)) (e h L p ∙ ap (λ (x : Result Unit Refusal). entered_by x p) q)

  pub line_blocked : {e : Refusal} → r ≡ Err e → PostLine image s states (Err e)
  line_blocked q = record { is = λ h L i p y. entering h L i p q; within = tt }

  module _ (q : r ≡ Ok tt) {w : ℕ} (a : w ≡ word_of image s) where
    tested : (h : Image.Head) (L : Limits) (i : ℕ) (p : RunState) → p.tables.base.aut.states.count ≡ states → {t : Bool} → leb w states ≡ t
        → (Read.enter image h L s 1 >>= λ _. Read.line image h L i s) p ≡ (if t then given (place p.tables (p.lines ++ line_of w ∷ []) p.output) 0 else refused 32)
    tested h L i p y f =
        entering h L i p q
        ∙ ap (λ (v : ℕ). if leb v p.tables.base.aut.states.count then given (place p.tables (p.lines ++ line_of v ∷ []) p.output) 0 else refused 32) (sym a)
        ∙ ap (λ (t : Bool). if t then given (place p.tables (p.lines ++ line_of w ∷ []) p.output) 0 else refused 32) (ap (leb w) y ∙ f)

    pub line_past : states < w → PostLine image s states (Err Record)
    line_past l = record { is = λ h L i p y. tested h L i p y (lt-leb w states l); within = tt }

    pub line_read : w ≤ states → w < 4294967296 → {l : code.Option ℕ} → code.SomeIff l (1 ≤ w) (w - 1) → PostLine image s states (Ok l)
    line_read m k {l} t = record {
      is = λ h L i p y. tested h L i p y (le-leb w states m) ∙ ap (λ (v : Option ℕ). given (place p.tables (p.lines ++ v ∷ []) p.output) 0) (line_stands w ∙ sym (ap stands_for (less_word w l t)));
      within = (omega (arith, less_word w l t), omega (arith, less_word w l t));
    }

-- ---- lines

-- a line that was read is a line to add
pub line_fits : (states : ℕ) (l : code.Option ℕ) {image : List ℕ} {s : ℕ} → PostLine image s states (Ok l) → code.IfSome l (λ x. x < 4294967295)
line_fits states (code.Some x) p = omega (arith, p.within.1)
line_fits states code.None p = tt

-- i of k lines are read
pub record LinesAt (image : List ℕ) (s k states : ℕ) (x : Lines) (i : ℕ) (y : Lines) : Type 0 where
  pub count : y.count ≡ i
  pub is : (h : Image.Head) (L : Limits) (p : RunState) → p.tables.base.aut.states.count ≡ states → p.lines ≡ []
      → records image h L (Read.line image h L) 1 0 s k p ≡ records image h L (Read.line image h L) 1 i (s + i) (k - i) (place p.tables (lines_at y) p.output)
  pub kept : (a : ℕ) → k ≤ a → get_or y.words.now a 0 ≡ get_or x.words.now a 0
  pub named : Below states (lines_at y)

module _ (image : List ℕ) (s k states : ℕ) (x : Lines) (P : PreLines image x s k) where
  pub lines_begin : LinesAt image s k states x 0 x
  lines_begin = record {
    count = P.none;
    is = λ h L p y z.
        ap (λ (m : ℕ). records image h L (Read.line image h L) 1 0 s m p) {x = k} {y = k - 0} (omega arith)
        ∙ ap (λ (m : ℕ). records image h L (Read.line image h L) 1 0 m (k - 0) p) {x = s} {y = s + 0} (omega arith)
        ∙ ap (λ (ls : List (Option ℕ)). records image h L (Read.line image h L) 1 0 (s + 0) (k - 0) (place p.tables ls p.output)) (z ∙ sym (no_lines x.words.now P.none));
    kept = λ a m. refl;
    named = λ a x' e. absurd (let q = sym (ap (λ (ls : List (Option ℕ)). get_or ls a none) (no_lines x.words.now P.none)) ∙ e in let z : ◌≡◌ {A = ℕ} 0 1 = cc in omega arith);
  }

  module _ (y : Lines) (i : ℕ) (v : LinesAt image s k states x i y) where
    at : (p : RunState) → RunState
    at p = place p.tables (lines_at y) p.output

    module _ (l : i < k) where
      pub lines_stop : {e : Refusal} → PostLine image (s + i) states (Err e) → PostLines image s k states x (Err e) y
      unfolding at
      lines_stop {e} post = record {
        is = λ h L p u z. v.is h L p u z ∙ records_stop image h L (Read.line image h L) 1 i (s + i) k (at p) (number_of e) l (post.is h L i (at p) u);
        kept = v.kept;
        then = tt;
      }

      pub lines_again : {w : code.Option ℕ} → PostLine image (s + i) states (Ok w) → {z : Lines} → z.words.now ≡ set y.words.now y.count (line_word w) → z.count ≡ y.count + 1 → lines_at z ≡ lines_at y ++ stands_for (line_word w) ∷ [] → LinesAt image s k states x (i + 1) z
      unfolding at
      lines_again {w} post {z} put f more =
          let low : line_word w ≤ states = post.within.0 in
          record {
            count = omega (arith, f, v.count);
            is = λ h L p u t. v.is h L p u t
                ∙ records_more image h L (Read.line image h L) 1 i (s + i) (s + (i + 1)) k (at p) (place p.tables (lines_at y ++ stands_for (line_word w) ∷ []) p.output) 0 l (omega arith) (post.is h L i (at p) u)
                ∙ ap (λ (ls : List (Option ℕ)). records image h L (Read.line image h L) 1 (i + 1) (s + (i + 1)) (k - (i + 1)) (place p.tables ls p.output)) (sym more);
            kept = λ a m. ap (λ (t : List ℕ). get_or t a 0) put ∙ get_or-set_other y.words.now y.count a (line_word w) 0 (λ e. omega (arith, v.count)) ∙ v.kept a m;
            named = subst (Below states) (sym more) (below_more (lines_at y) v.named (omega arith) (stands_for (line_word w)) (λ x e. stands_below (line_word w) states x low e));
          }

    pub lines_end : i ≡ k → PostLines image s k states x (Ok tt) y
    lines_end e = record {
      is = λ h L p u z. v.is h L p u z ∙ records_end image h L (Read.line image h L) 1 i (s + i) k (place p.tables (lines_at y) p.output) (omega arith);
      kept = v.kept;
      then = record { count = v.count ∙ e; named = v.named };
    }
