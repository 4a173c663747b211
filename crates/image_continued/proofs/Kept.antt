-- Live sets that were worked out are kept in words 7 of the states: in both runs, or in the second alone where the first has them. And two live sets of one state are one set.
use mathlib.Core.Path.{◌≡◌, refl, sym, ◌∙◌, ap}
use mathlib.Core.Logic.{◌≢◌, ◌⊎◌, inr}
use mathlib.Core.List.Memᴰ
use mathlib.Core.List.{List, [], Memᴰ}
use Prim.Native.Nat.{ℕ, ◌+◌, ◌*◌, ◌<◌}
use native.Mathlib.Omega.{arith}
use lib.ListN.{length, get_or}
use Rattle.common.specs.Packets.{Packet}
use Rattle.common.specs.Runs.{Table}
use Rattle.sp_steps.proofs.Laws as SpLawsProofs
use Rattle.spp_steps.proofs.Relations.{tests_equal}
use Rattle.aut_steps.specs.Tables.{Limits}
use Rattle.aut_steps.specs.Wf.{states}
use Rattle.aut_steps.specs.Meaning.{Holds}
use Rattle.aut_steps.specs.Languages.{◌≈◌}
use Rattle.aut_steps.proofs.Meaning.{holds_grown}
use Rattle.aut_delta_steps.specs.Epsilon.{epsilon_of}
use Rattle.aut_delta_steps.specs.Delta.{count_of}
use Rattle.aut_query_steps.specs.Tables.{Tables, live_of, LiveSet, WfTables, ExtTables}
use Rattle.aut_query_steps.proofs.Tables.{live_same, later_refl}
use Rattle.aut_query_steps.specs.Explored.{Linked}
use Rattle.aut_query_steps.specs.Live.{keep_lives}
use Rattle.aut_query_steps.proofs.LiveLaws.{Wrote, wrote, kept_ordered, kept_later}
use Rattle.aut_replay.proofs.Delta.{settled_written}
use Rattle.image_continued.specs.Records.{SameRecords}
use Rattle.image_continued.specs.Mode.{Mode, InStep, Whole}
use Rattle.image_continued.proofs.Records.{same_refl, same_sym, same_trans, same_grown}
use Rattle.image_continued.proofs.Delta.{Sound}
use Rattle.image_continued.proofs.Tables.{TwinTables, Is}

-- ---- words 7 are written

-- of the states ss, and nothing else
pub record KeptTo (N : ℕ) (L : Limits) (ss : List ℕ) (v : ℕ → ℕ) (σ ω : Tables) : Type 0 where
  pub ordered : WfTables N L ω
  pub sound : Sound N L ω.base
  pub same : SameRecords σ.base.aut ω.base.aut
  pub words : (i w : ℕ) → w < 12 → w ≢ 7 → get_or ω.base.aut.states.words (12 * i + w) 0 ≡ get_or σ.base.aut.states.words (12 * i + w) 0
  pub each : (i : ℕ) → (Memᴰ i ss × (live_of ω.base.aut.states.words i ≡ v i + 1)) ⊎ ((Memᴰ i ss → ⊥) × (live_of ω.base.aut.states.words i ≡ live_of σ.base.aut.states.words i))
  pub sets : ω.sets ≡ σ.sets
  pub transitions : ω.base.transitions ≡ σ.base.transitions
  pub later : ExtTables σ ω

module _ {N : ℕ} {L : Limits} where
  pub kept_none : {σ : Tables} → WfTables N L σ → Sound N L σ.base → (v : ℕ → ℕ) → KeptTo N L [] v σ σ
  kept_none {σ} o S v = record {
    ordered = o;
    sound = S;
    same = same_refl σ.base.aut;
    words = λ i w l n. refl;
    each = λ i. inr (λ m. Memᴰ.not-nil m, refl);
    sets = refl;
    transitions = refl;
    later = later_refl σ;
  }

  pub kept_to : {σ : Tables} → WfTables N L σ → Sound N L σ.base → (ss : List ℕ) (v : ℕ → ℕ) → ((s : ℕ) → Memᴰ s ss → Linked σ.base ss s)
      → ((s : ℕ) → Memᴰ s ss → LiveSet N σ.sets (v s) (Holds N σ.base.aut s)) → KeptTo N L ss v σ (keep_lives ss v σ)
  kept_to {σ} o S ss v links lives = record {
    ordered = kept_ordered σ ss v o links lives;
    sound = record {
      worked = (kept_ordered σ ss v o links lives).worked;
      settled = settled_written S.worked S.settled (record {
        nodes = refl;
        members = refl;
        transitions = refl;
        count = W.count;
        len = W.grown.states.len;
        words = λ x w l. W.words x w (omega arith) (λ q. omega arith);
        beyond = λ j l. W.grown.states.beyond j (omega (arith, W.count));
      });
    };
    same = record { nodes = refl; members = refl; count = sym W.count; len = sym W.grown.states.len; words = λ x w l. sym (W.words x w (omega arith) (λ q. omega arith)) };
    words = W.words;
    each = W.each;
    sets = refl;
    transitions = refl;
    later = kept_later σ ss v o links lives;
  }
    where
      W : Wrote N L ss v σ.base.aut (keep_lives ss v σ).base.aut
      W = wrote ss v o.worked.good (λ x m. (links x m).known)

  -- ---- in both

  pub kept_twins : {mode : Mode} {σ τ ω ω' : Tables} {ss ss' : List ℕ} {v v' : ℕ → ℕ} → TwinTables N L mode σ τ → KeptTo N L ss v σ ω → KeptTo N L ss' v' τ ω'
      → ((i : ℕ) → 0 < live_of ω'.base.aut.states.words i → 0 < live_of ω.base.aut.states.words i)
      → (InStep mode → (i : ℕ) → 0 < live_of ω'.base.aut.states.words i → live_of ω.base.aut.states.words i ≡ live_of ω'.base.aut.states.words i)
      → (Whole mode → (i : ℕ) → 0 < live_of ω.base.aut.states.words i → 0 < live_of ω'.base.aut.states.words i) → TwinTables N L mode ω ω'
  unfolding epsilon_of count_of
  kept_twins t k k' f e g = record {
    base = record {
      less = record {
        knows = record {
          same = same_trans (same_sym k.same) (same_trans t.base.less.knows.same k'.same);
          epsilons = λ i c. omega (arith, k.words i 4 (omega arith) (λ q. omega arith), t.base.less.knows.epsilons i (omega (arith, k'.words i 4 (omega arith) (λ q. omega arith))));
        };
        lists = λ i c. omega (arith, k.words i 6 (omega arith) (λ q. omega arith), t.base.less.lists i (omega (arith, k'.words i 6 (omega arith) (λ q. omega arith))));
      };
      room = ap (λ (u : Table). length u.words) k.transitions ∙ t.base.room ∙ sym (ap (λ (u : Table). length u.words) k'.transitions);
      left = k.sound;
      right = k'.sound;
    };
    left = k.ordered;
    right = k'.ordered;
    lives = f;
    sets = λ q. k.sets ∙ t.sets q ∙ sym k'.sets;
    words = e;
    all = g;
  }

-- ---- one live set

module _ {N : ℕ} {L : Limits} {mode : Mode} {σ τ : Tables} (t : TwinTables N L mode σ τ) {x : ℕ} (l : x < states σ.base.aut) where
  pub same_strings : Holds N τ.base.aut x ≈ Holds N σ.base.aut x
  same_strings = holds_grown t.left.worked.good (same_grown t.base.less.knows.same t.left.worked.good t.right.worked.good) l

  pub live_is : {h h' : ℕ} → LiveSet N σ.sets h (Holds N σ.base.aut x) → LiveSet N τ.sets h' (Holds N τ.base.aut x) → (InStep mode → h ≡ h') → Is N mode σ τ h h'
  live_is {h} {h'} a b' e = record { set = a.set; left = a.den; right = SpLawsProofs.den_map (λ p. sym (equal p)) b.den; one = e }
    where
      b : LiveSet N τ.sets h' (Holds N σ.base.aut x)
      b = live_same same_strings b'

      equal : (p : Packet N) → a.set p ≡ b.set p
      equal p = tests_equal (a.set p) (b.set p) (λ u. (b.is.live p).1 ((a.is.live p).0 u)) (λ u. (a.is.live p).1 ((b.is.live p).0 u))
