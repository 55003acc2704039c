-- The list is laid out from its end: what stands in the borrowed file, and where the groups end that are still open.
use Rattle.std.specs.Prelude.{◌+◌, ◌-◌, ◌<◌, ◌≤◌, ◌≡◌, ◌∷◌, ◌++◌, Some, None}
use Rattle.std.specs.List.{push}
use Rattle.model.specs.Prelude.{ℕ, refl, ap, sym, ◌∙◌, List, [], append_assoc, append-nil, map-append, arith}
use Rattle.model.specs.Prelude.{max, length, drop, get_or, set, length-set}
use Rattle.plan_file.specs.declared.kinds.ItemKind.{TheVariants.{Opened, Used, Closed}}
use Rattle.plan_file.specs.{Kinds.kind_of, Plan.{Event, opened, used, closed}, Wide.Wide}
use Rattle.plan_file.specs.Write.{levels, deepest, head, on_top, shut, written, top, widest}
use Rattle.plan_file.specs.{Writing.{costs, put_at, Fine, Laid}, WritingLaws.{put_at_drop, next_split, none_left}}
use Rattle.plan_file.specs.Items.{event_in, events_in, event_is, use_bytes, Sixteen, wide_in}
use Rattle.plan_file.specs.Levels.{level_closed, level_tail, level_deep, levels_length, flat, flat_push, flat_top, flat_shut}
use Rattle.plan_file.specs.Levels.{flat_one, Ends, ends_push, ends_top, ends_shut, size_of}

-- ---- A list that was judged, and what lies behind any event of it
record Safe (es : List Event) (total : ℕ) : Type 0 where
  pub level : 1 ≤ levels es
  pub deep : deepest es ≤ 9
  pub sum : costs es ≤ total
  pub wide : Wide es

safe_tail : {e : Event} {es : List Event} {total : ℕ} → Safe (e ∷ es) total → Safe es total
unfolding levels deepest costs
safe_tail {e} {es} s =
    record {
      level = level_tail e (levels es) s.level;
      deep = omega (arith, s.deep);
      sum = omega (arith, s.sum);
      wide = s.wide.1;
    }

safe_behind : (xs : List Event) {es : List Event} {total : ℕ} → Safe (xs ++ es) total → Safe es total
safe_behind [] s = s
safe_behind (x ∷ xs) s = safe_behind xs (safe_tail s)

fine_safe : {es : List Event} {total : ℕ} → Fine es total → Wide es → Safe es total
fine_safe f w = record { level = omega (arith, f.level); deep = f.deep; sum = omega (arith, f.cost); wide = w }

-- ---- The writer's state, with the events es behind it
pub record Laying (es : List Event) (total : ℕ) (l : List ℕ) (level p wide : ℕ) (ends m : List ℕ) : Type 0 where
  pub place : p + costs es ≡ total
  pub depth : level + 1 ≡ levels es
  pub at : Ends (written es) p ends
  pub width : wide ≡ widest es
  pub long : length m ≡ length l
  pub eight : length ends ≡ 8
  pub bytes : total ≤ length l → drop p m ≡ flat (written es) ++ drop total l

-- a group is to be opened: its end is known
pub record Shutting (es : List Event) (level p : ℕ) (ends : List ℕ) : Type 0 where
  pub some : 1 ≤ level
  pub low : level ≤ 8
  pub size : get_or ends (level - 1) 0 ≡ p + length (top (written es))
  pub room : 3 ≤ p

lay_starts : {total : ℕ} {l ends : List ℕ} → length ends ≡ 8 → Laying [] total l 0 total 0 ends l
unfolding costs levels written widest
lay_starts e =
    record { place = omega arith; depth = omega arith; at = tt; width = refl; long = refl; eight = e; bytes = λ _. refl }

module _ {es : List Event} {total : ℕ} {l : List ℕ} {level p wide : ℕ} {ends m : List ℕ} (g : Laying es total l level p wide ends m) where
  stack_long : length (written es) ≡ level + 1
  stack_long = levels_length es ∙ sym g.depth

  closed_low : Safe (closed ∷ es) total → level < 8
  unfolding levels
  closed_low s = omega (arith, s.deep, level_deep (closed ∷ es), level_closed (levels es) (omega (arith, g.depth)), g.depth)

  lay_closed : Safe (closed ∷ es) total → Laying (closed ∷ es) total l (level + 1) p wide (set ends level p) m
  unfolding costs levels written widest
  lay_closed s = record {
    place = omega (arith, g.place);
    depth = omega (arith, g.depth, level_closed (levels es) (omega (arith, g.depth)));
    at = ends_push (written es) p ends level stack_long (omega (arith, closed_low s, g.eight)) g.at;
    width = g.width;
    long = g.long;
    eight = length-set ends level p ∙ g.eight;
    bytes = λ h. g.bytes h ∙ ap (λ (z : List ℕ). z ++ drop total l) (sym (flat_push (written es)));
  }

  used_low : {b : List ℕ} → Safe (used b ∷ es) total → 18 ≤ p
  unfolding costs
  used_low s = omega (arith, s.sum, g.place)

  lay_used : {b x m₁ : List ℕ} → Safe (used b ∷ es) total → x ≡ head 2 15 ++ b → m₁ ≡ put_at (p - 18) x m → length m₁ ≡ length m
      → Laying (used b ∷ es) total l level (p - 18) wide ends m₁
  unfolding costs levels written widest
  lay_used {b} {x} {m₁} s f e k = record {
    place = omega (arith, g.place, used_low s);
    depth = g.depth;
    at = ends_top (head 2 15 ++ b) (written es) p (p - 18) ends (omega (arith, used_low s, s.wide.0)) g.at;
    width = g.width;
    long = k ∙ g.long;
    eight = g.eight;
    bytes = λ h. there (omega (arith, used_low s)) s.wide.0 (omega (arith, h, g.place, g.long)) h;
  }
    where
      there : 18 ≤ p → length b ≡ 15 → p ≤ length m → total ≤ length l
          → drop (p - 18) m₁ ≡ flat (on_top (head 2 15 ++ b) (written es)) ++ drop total l
      there a i r h =
          let one : drop (p - 18) m₁ ≡ (head 2 15 ++ b) ++ drop (p - 18 + length (head 2 15 ++ b)) m =
          ap (drop (p - 18)) (e ∙ ap (λ (y : List ℕ). put_at (p - 18) y m) f) ∙ put_at_drop m (head 2 15 ++ b) (p - 18) (omega arith) in
          let q : p - 18 + length (head 2 15 ++ b) ≡ p = omega arith in
          let two : drop (p - 18 + length (head 2 15 ++ b)) m ≡ flat (written es) ++ drop total l =
          ap (λ (j : ℕ). drop j m) q ∙ g.bytes h in
          let top : flat (on_top (head 2 15 ++ b) (written es)) ≡ (head 2 15 ++ b) ++ flat (written es) =
          flat_top (head 2 15 ++ b) (written es) (omega (arith, stack_long)) in
          one ∙ ap (λ (z : List ℕ). (head 2 15 ++ b) ++ z) two ∙ sym (append_assoc (head 2 15 ++ b) (flat (written es)) (drop total l))
          ∙ ap (λ (z : List ℕ). z ++ drop total l) (sym top)

  opened_low : Safe es total → Safe (opened ∷ es) total → Shutting es level p ends
  unfolding costs levels
  opened_low s₀ s =
      let some : 1 ≤ level = omega (arith, s.level, g.depth) in
      record {
        some = some;
        low = omega (arith, s₀.deep, level_deep es, g.depth);
        size = size_of (written es) p ends level stack_long some g.at;
        room = omega (arith, s.sum, g.place);
      }

  lay_opened : {x m₁ : List ℕ} {wide₁ : ℕ} → Shutting es level p ends → x ≡ head 1 (get_or ends (level - 1) 0 - p)
      → m₁ ≡ put_at (p - 3) x m → length m₁ ≡ length m → wide₁ ≡ max wide (get_or ends (level - 1) 0 - p)
      → Laying (opened ∷ es) total l (level - 1) (p - 3) wide₁ ends m₁
  unfolding costs levels written widest
  lay_opened {x} {m₁} {wide₁} s y e k w =
      let size : get_or ends (level - 1) 0 - p ≡ length (top (written es)) = omega (arith, s.size) in record {
        place = omega (arith, g.place, s.room);
        depth = omega (arith, g.depth, s.some);
        at = ends_shut (written es) p (p - 3) ends (omega (arith, s.room)) g.at;
        width = w ∙ ap (λ (j : ℕ). max wide j) size ∙ ap (λ (j : ℕ). max j (length (top (written es)))) g.width;
        long = k ∙ g.long;
        eight = g.eight;
        bytes = λ h. there s.room s.some size (omega (arith, h, g.place, g.long)) h;
      }
    where
      there : 3 ≤ p → 1 ≤ level → get_or ends (level - 1) 0 - p ≡ length (top (written es)) → p ≤ length m → total ≤ length l
          → drop (p - 3) m₁ ≡ flat (shut (written es)) ++ drop total l
      there a n f r h =
          let one : drop (p - 3) m₁ ≡ head 1 (get_or ends (level - 1) 0 - p) ++ drop (p - 3 + 3) m =
          ap (drop (p - 3)) (e ∙ ap (λ (z : List ℕ). put_at (p - 3) z m) y)
          ∙ put_at_drop m (head 1 (get_or ends (level - 1) 0 - p)) (p - 3) (omega arith) in
          let q : p - 3 + 3 ≡ p = omega arith in
          let two : drop (p - 3 + 3) m ≡ flat (written es) ++ drop total l = ap (λ (j : ℕ). drop j m) q ∙ g.bytes h in
          one ∙ ap (λ (j : ℕ). head 1 j ++ drop (p - 3 + 3) m) f ∙ ap (λ (z : List ℕ). head 1 (length (top (written es))) ++ z) two
          ∙ ap (λ (z : List ℕ). z ++ drop total l) (sym (flat_shut (written es) (omega (arith, stack_long))))

  lay_ends : Fine es total → Laid es total l wide m
  lay_ends f =
      let z : p ≡ 0 = omega (arith, g.place, f.cost) in
      let one = flat_one (written es) (levels_length es ∙ f.level) in
      record {
        width = g.width;
        bytes = λ h. ap (λ (j : ℕ). drop j m) (sym z) ∙ g.bytes h ∙ ap (λ (x : List ℕ). x ++ drop total l) one;
      }

-- ---- The same of the items its, of which the last, `gone`, are laid out, and `rest` are left
pub record LayingAt (its rest : List (List ℕ)) (total : ℕ) (l : List ℕ) (level p wide : ℕ) (ends m : List ℕ) : Type 0 where
  pub gone : List (List ℕ)
  pub split : its ≡ rest ++ gone
  pub state : Laying (events_in gone) total l level p wide ends m

pub lay_starts_at : (its : List (List ℕ)) {total : ℕ} {l ends : List ℕ} → length ends ≡ 8 → LayingAt its its total l 0 total 0 ends l
lay_starts_at its e = record { gone = []; split = sym (append-nil its); state = lay_starts e }

module _ {its rest : List (List ℕ)} {total : ℕ} {l : List ℕ} {level p wide : ℕ} {ends m : List ℕ} (f : Fine (events_in its) total)
    (g : LayingAt its rest total l level p wide ends m) where
  pub lay_ends_at : length rest ≡ 0 → Laid (events_in its) total l wide m
  lay_ends_at h = let e = none_left rest g.gone g.split h in rw e (lay_ends g.state (rw e at f))

  module _ (w : Sixteen its) (rest₁ : List (List ℕ)) (it : List ℕ) (n : rest ≡ push rest₁ it) where
    safe_next : Safe (event_in it ∷ events_in g.gone) total
    safe_next = safe_behind (events_in rest₁) (rw (next_split g.gone rest₁ it g.split n, map-append) at (fine_safe f (wide_in its w)))

    safe_as : {e : Event} → event_in it ≡ e → Safe (e ∷ events_in g.gone) total
    safe_as q = rw (← q) safe_next

    lay_as : {e : Event} {level₁ p₁ wide₁ : ℕ} {ends₁ m₁ : List ℕ} → event_in it ≡ e
        → Laying (e ∷ events_in g.gone) total l level₁ p₁ wide₁ ends₁ m₁ → LayingAt its rest₁ total l level₁ p₁ wide₁ ends₁ m₁
    lay_as q s = record { gone = it ∷ g.gone; split = next_split g.gone rest₁ it g.split n; state = rw q s }

    pub opening : Some Opened ≡ kind_of (get_or it 0 0) → Shutting (events_in g.gone) level p ends
    opening k = opened_low g.state (safe_tail safe_next) (safe_as (event_is it k))

    pub turn_opened : Some Opened ≡ kind_of (get_or it 0 0) → {x m₁ : List ℕ} {wide₁ : ℕ} → x ≡ head 1 (get_or ends (level - 1) 0 - p)
        → m₁ ≡ put_at (p - 3) x m → length m₁ ≡ length m → wide₁ ≡ max wide (get_or ends (level - 1) 0 - p)
        → LayingAt its rest₁ total l (level - 1) (p - 3) wide₁ ends m₁
    turn_opened k y a b c = lay_as (event_is it k) (lay_opened g.state (opening k) y a b c)

    pub use_low : Some Used ≡ kind_of (get_or it 0 0) → 18 ≤ p
    use_low k = used_low g.state (safe_as (event_is it k))

    pub turn_used : Some Used ≡ kind_of (get_or it 0 0) → {x m₁ : List ℕ} → x ≡ head 2 15 ++ use_bytes it → m₁ ≡ put_at (p - 18) x m
        → length m₁ ≡ length m → LayingAt its rest₁ total l level (p - 18) wide ends m₁
    turn_used k y a b = lay_as (event_is it k) (lay_used g.state (safe_as (event_is it k)) y a b)

    pub closing : Some Closed ≡ kind_of (get_or it 0 0) → level < 8
    closing k = closed_low g.state (safe_as (event_is it k))

    pub turn_closed : Some Closed ≡ kind_of (get_or it 0 0) → LayingAt its rest₁ total l (level + 1) p wide (set ends level p) m
    turn_closed k = lay_as (event_is it k) (lay_closed g.state (safe_as (event_is it k)))

    pub no_other : None ≡ kind_of (get_or it 0 0) → ⊥
    unfolding levels
    no_other k = let s = safe_as (event_is it k) in omega (arith, s.level)
