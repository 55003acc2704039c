-- Both halves change, mip by mip: what each step needs holds, and what it leaves is the next place of the loop.
use Rattle.model.specs.Prelude.{ℕ, arith, refl, ap, subst, ◌∙◌, inl, Bool, true, false, List, [], leb, length, get_or, set, le-leb, lt-leb}
use Rattle.model.specs.Prelude.{lt-ltb, le-ltb}
use Rattle.model.specs.{declared.{Range.Range, Selector.Selector, InvalidUse.InvalidUse}, Base.{Stop, fine}, Sets.Numbers}
use Rattle.model.specs.{Representation.{mip_start, mip_end, layer_start, layer_end, in_mips}, RangedStates.{isolate, coalesce, paint}}
use Rattle.model.specs.{Texture.{learn, learn_all, met_by, on_mips}, RangeLaws.isolate_cuts}
use Rattle.std.specs.Prelude.{◌+◌, ◌-◌, ◌≤◌, ◌<◌, ◌≡◌, ◌&&◌}
use Rattle.range_states.specs.View.{decode}
use Rattle.range_isolate.specs.Isolation.{IsolateRoom}
use Rattle.texture_mips.specs.{Learn.LearnRoom, Kept.{learn_room, tiles_within}}
use Rattle.set_storage.specs.declared.{Located.Located}
use Rattle.set_storage.specs.Storage.{numbers_of, start_half, end_half, count_at, mips_in, mip_of, mips_of, layers_at, mips_at, state_at}
use Rattle.set_storage.specs.{Frames.{MipReady, MipsBecome, half_of, mip_put, mips_long, mips_same, mips_top}, Slots.half_low}
use Rattle.set_storage.specs.{Locate.LocatedAt, Stays.{BothFrame, both_refl, both_then}, Stored.lent_part, Uses.piece}
use Rattle.set_storage.specs.Texture.{measured_low, numbers_low}
use Rattle.texture_merge.specs.Ready.{Selects, put_back, mip_left, part_long, lent_is, lent_fits, lent_layers, lent_tiled}
use Rattle.texture_merge.specs.Ready.{lent_room}
use Rattle.texture_merge.specs.Walking.{InPlace, place_skip, walk_rest, walk_end, among, among_under, among_over, walk_edits}
use Rattle.texture_merge.specs.Walks.{next_mip, next_turn}
use Rattle.texture_update.specs.{declared.pair.Both.Both, Pair.PairLeft, Both.{BothMips, low_of, tiled_low, away_mips, mips_then_mips}}
use Rattle.texture_update.specs.Learning.{PairTiled, BothReady, walk_learn}

-- ---- one mip
module _ {t s e : List ℕ} {i m : ℕ} (q : PairTiled t s e i m) {x y : Located} (l : LocatedAt t start_half i m (length s) x)
    (k : LocatedAt t end_half i m (length e) y) (a z u new : ℕ) (az : a < z) (zl : z ≤ get_or t (layers_at i) 0) where
  -- the room that both parts need
  pub pair_room : IsolateRoom (lent_part y e) y.len a z u
      × LearnRoom (lent_part x s) x.len u new (isolate a z u (decode y.len (lent_part y e))).run
  pair_room =
      let c = isolate_cuts (decode y.len (lent_part y e)) 0 a z u (get_or t (layers_at i) 0) (omega arith) az zl (lent_tiled q.end k) in (
        lent_room q.end k a z u az zl,
        learn_room (lent_part x s) x.len u new (isolate a z u (decode y.len (lent_part y e))).run (get_or t (layers_at i) 0)
            (lent_layers q.start l) (lent_fits q.start l)
            (tiles_within (isolate a z u (decode y.len (lent_part y e))).run a z (get_or t (layers_at i) 0) zl c.run)
            (lent_tiled q.start l),
      )

  abbrev learned : List Range
  learned = learn u new (isolate a z u (mip_of (numbers_of t) end_half t e i m)).run (mip_of (numbers_of t) start_half t s i m)

  abbrev painted : List Range
  painted = coalesce (paint u a z new (mip_of (numbers_of t) end_half t e i m))

  -- what both parts are left as, once the counts are written
  pub pair_put : {r : Both} {s' e' : List ℕ} → PairLeft (lent_part x s) x.len (lent_part y e) y.len a z u new r s' e'
      → BothMips (numbers_of t) i (set (mips_of (numbers_of t) start_half t s i) m learned) (set (mips_of (numbers_of t) end_half t e i) m
      painted) t s e (set (set t (count_at start_half i m) r.start) (count_at end_half i m) r.end) (put_back x s s') (put_back y e e')
  pair_put {r} {s'} {e'} p =
      let rs = q.start.ready in let re = q.end.ready in
      let first : MipsBecome (numbers_of t) start_half i (set (mips_of (numbers_of t) start_half t s i) m learned) t s
      (set t (count_at start_half i m) r.start) (put_back x s s') =
      mip_left rs l r.start s' learned p.start.long p.start.fits (rw (lent_is q.start l, lent_is q.end k) at p.start.seen) in
      let low = half_low rs.measured rs.texture (half_of first.frame) in
      let n : mips_in (numbers_of t) (set t (count_at start_half i m) r.start) i ≡ mips_in (numbers_of t) t i =
      mips_same (numbers_of t) t (set t (count_at start_half i m) r.start) i
      (low (mips_at i) (omega (arith, rs.measured.textures, rs.texture))) in
      let ready : MipReady (numbers_of t) end_half (set t (count_at start_half i m) r.start) e i m =
      record {
        measured = measured_low low refl first.frame.words.long re.measured;
        texture = re.texture;
        mip = rw n re.mip;
        top = mips_top (numbers_of t) (set t (count_at start_half i m) r.start) i;
      } in
      let second = mip_put ready y.base (y.end - y.base) r.end e' painted k.base k.size p.end.long
      (omega (arith, p.end.fits, part_long re k, k.size)) (rw (lent_is q.end k) at p.end.seen) in
      mips_then_mips rs.measured re.measured rs.texture first
      (subst (λ (ys : List (List Range)). MipsBecome (numbers_of t) end_half i (set ys m painted) (set t (count_at start_half i m) r.start)
      e (set (set t (count_at start_half i m) r.start) (count_at end_half i m) r.end) (put_back y e e'))
      (away_mips rs.measured rs.texture (half_of first.frame) end_half (inl (omega arith)) e) second)

-- ---- every mip of a selector: m is the next one
-- what the start's mip k learns by, of the end as it was
abbrev pub taught : ℕ → ℕ → Selector → List ℕ → List ℕ → ℕ → ℕ → List Range → Stop InvalidUse (List Range)
taught u new q t e i k x = fine (learn u new (met_by u (piece q new) k (mip_of (numbers_of t) end_half t e i k)) x)

abbrev pub given : ℕ → ℕ → Selector → List Range → List Range
given u new q x = coalesce (paint u (layer_start q) (layer_end q) new x)

abbrev pub painting : ℕ → ℕ → Selector → ℕ → List Range → Stop InvalidUse (List Range)
painting u new q = among q (λ k x. fine (given u new q x))

pub record Turning (u new : ℕ) (q : Selector) (i : ℕ) (t₀ s₀ e₀ : List ℕ) (m : ℕ) (t s e : List ℕ) : Type 0 where
  pub from : mip_start q ≤ m
  pub upto : m ≤ mip_end q
  pub starts : InPlace [] (taught u new q t₀ e₀ i) (mips_of (numbers_of t₀) start_half t₀ s₀ i) m (mips_of (numbers_of t₀) start_half t s i)
  pub ends : InPlace [] (painting u new q) (mips_of (numbers_of t₀) end_half t₀ e₀ i) m (mips_of (numbers_of t₀) end_half t e i)
  pub start_word : get_or t (state_at start_half i) 0 ≡ get_or t₀ (state_at start_half i) 0
  pub end_word : get_or t (state_at end_half i) 0 ≡ get_or t₀ (state_at end_half i) 0
  pub frame : BothFrame (numbers_of t₀) i t₀ s₀ e₀ t s e

module _ (u new : ℕ) {q : Selector} {i : ℕ} {t₀ s₀ e₀ : List ℕ} (p : BothReady t₀ s₀ e₀ i) (k : Selects (numbers_of t₀) t₀ i q) where
  -- a mip that the selector does not name learns nothing
  untaught : (j : ℕ) (x : List Range) → in_mips q j ≡ false → taught u new q t₀ e₀ i j x ≡ fine x
  unfolding learn
  untaught j x o = rw o

  pub turn_start : Turning u new q i t₀ s₀ e₀ (mip_start q) t₀ s₀ e₀
  turn_start = record {
    from = omega arith;
    upto = omega (arith, k.mips);
    starts = place_skip [] (taught u new q t₀ e₀ i) _ (mip_start q)
        (rw (mips_long (numbers_of t₀) start_half t₀ s₀ i) (omega (arith, k.mips, k.in_mips)))
        (λ j x a. untaught j x (rw (lt-leb (mip_start q) j a)));
    ends = place_skip [] (painting u new q) _ (mip_start q) (rw (mips_long (numbers_of t₀) end_half t₀ e₀ i)
        (omega (arith, k.mips, k.in_mips))) (λ j x a. among_under q (λ k x. fine (given u new q x)) j x a);
    start_word = refl;
    end_word = refl;
    frame = both_refl t₀ s₀ e₀;
  }

  module _ {m : ℕ} {t s e : List ℕ} (w : Turning u new q i t₀ s₀ e₀ m t s e) where
    low : (x : ℕ) → x < start_half → get_or t x 0 ≡ get_or t₀ x 0
    low = low_of p.start.measured p.end.measured p.start.texture w.frame

    count : mips_in (numbers_of t₀) t i ≡ mips_in (numbers_of t₀) t₀ i
    count = mips_same (numbers_of t₀) t₀ t i (low (mips_at i) (omega (arith, p.start.measured.textures, p.start.texture)))

    module _ (b : m < mip_end q) where
      inside : m < mips_in (numbers_of t₀) t₀ i
      inside = omega (arith, k.in_mips)

      named : in_mips q m ≡ true
      named = rw (le-leb (mip_start q) m w.from, lt-ltb m (mip_end q) b)

      end_here : mip_of (numbers_of t₀) end_half t e i m ≡ mip_of (numbers_of t₀) end_half t₀ e₀ i m
      end_here = next_mip (painting u new q) (numbers_of t₀) end_half i t₀ e₀ t e w.ends count inside

      pub turn_tiled : PairTiled t s e i m
      turn_tiled = record {
        start = tiled_low low w.frame.starts.long w.frame.words.long i m p.start inside
            (next_mip (taught u new q t₀ e₀ i) (numbers_of t₀) start_half i t₀ s₀ t s w.starts count inside);
        end = tiled_low low w.frame.ends.long w.frame.words.long i m p.end inside end_here;
      }

      pub turn_on : {t' s' e' : List ℕ}
          → BothMips (numbers_of t) i (set (mips_of (numbers_of t) start_half t s i) m
          (learn u new (isolate (layer_start q) (layer_end q) u (mip_of (numbers_of t) end_half t e i m)).run
          (mip_of (numbers_of t) start_half t s i m)))
          (set (mips_of (numbers_of t) end_half t e i) m (given u new q (mip_of (numbers_of t) end_half t e i m))) t s e t' s' e'
          → Turning u new q i t₀ s₀ e₀ (m + 1) t' s' e'
      turn_on {t'} {s'} {e'} x =
          let y : BothMips (numbers_of t₀) i
          (set (mips_of (numbers_of t₀) start_half t s i) m
          (learn u new (isolate (layer_start q) (layer_end q) u (mip_of (numbers_of t₀) end_half t e i m)).run
          (mip_of (numbers_of t₀) start_half t s i m)))
          (set (mips_of (numbers_of t₀) end_half t e i) m (given u new q (mip_of (numbers_of t₀) end_half t e i m))) t s e t' s' e' =
          subst (λ (d : Numbers). BothMips d i
          (set (mips_of d start_half t s i) m (learn u new (isolate (layer_start q) (layer_end q) u (mip_of d end_half t e i m)).run
          (mip_of d start_half t s i m))) (set (mips_of d end_half t e i) m (given u new q (mip_of d end_half t e i m))) t s e t' s'
          e') (numbers_low t₀ t low) x in
          record {
            from = omega (arith, w.from);
            upto = omega arith;
            starts = next_turn (taught u new q t₀ e₀ i) (numbers_of t₀) start_half i t₀ s₀ t s w.starts count inside t' s'
                (rw (named, ← end_here) y.starts) refl;
            ends = next_turn (painting u new q) (numbers_of t₀) end_half i t₀ e₀ t e w.ends count inside t' e' (rw named y.ends) (rw named);
            start_word = y.start_word ∙ w.start_word;
            end_word = y.end_word ∙ w.end_word;
            frame = both_then w.frame y.frame;
          }

    past : (j : ℕ) → mip_end q ≤ j → in_mips q j ≡ false
    past j o = rw (le-ltb j (mip_end q) o) (go (leb (mip_start q) j))
      where
        go : (b : Bool) → (b && false) ≡ false
        go true = refl
        go false = refl

    pub turn_end : mip_end q ≤ m
        → BothMips (numbers_of t₀) i (learn_all (met_by u (piece q new)) u new 0
        (mips_of (numbers_of t₀) end_half t₀ e₀ i) (mips_of (numbers_of t₀) start_half t₀ s₀ i))
        (on_mips q (given u new q) 0 (mips_of (numbers_of t₀) end_half t₀ e₀ i)) t₀ s₀ e₀ t s e
    turn_end b = record {
      starts = (walk_end (taught u new q t₀ e₀ i) w.starts.walking
          (walk_rest (taught u new q t₀ e₀ i) m _ (λ j x a. untaught j x (past j (omega arith))))).0
          ∙ ap (λ (x : Stop InvalidUse (List (List Range))). x.value) (walk_learn (met_by u (piece q new)) u new
          (mip_of (numbers_of t₀) end_half t₀ e₀ i) (mip_of (numbers_of t₀) start_half t₀ s₀ i) 0 (mips_in (numbers_of t₀) t₀ i));
      ends = (walk_end (painting u new q) w.ends.walking
          (walk_rest (painting u new q) m _ (λ j x a. among_over q (λ k x. fine (given u new q x)) j x (omega arith)))).0
          ∙ ap (λ (x : Stop InvalidUse (List (List Range))). x.value) (walk_edits q (given u new q) 0
          (mips_of (numbers_of t₀) end_half t₀ e₀ i));
      start_word = w.start_word;
      end_word = w.end_word;
      frame = w.frame;
    }
