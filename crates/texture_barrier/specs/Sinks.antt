-- WHAT A SINK IS: what holds of whatever takes transitions, and that it holds of the two, a count and a log that is written.
use Rattle.model.specs.Prelude.{arith, refl, ◌∙◌, List, [], length, length-append}
use Rattle.model.specs.declared.{PendingTransition.PendingTransition}
use Rattle.std.specs.Prelude.{◌+◌, ◌*◌, ◌≤◌, ◌<◌, ◌≡◌, ◌++◌}
use Rattle.texture_barrier.specs.{declared.sink.Counting.Counting, declared.sink.Writing.Writing}
use Rattle.texture_barrier.specs.Written.{Written, written_none, written_then}

-- `room` tells for what there is room, and `takes` what a sink becomes
pub record SinkLaws {S : Type 0} (room : S → List PendingTransition → Type 0)
    (takes : S → List PendingTransition → S → Type 0) : Type 0 where
  -- nothing is taken: it is as it was
  pub none : (s : S) → takes s [] s
  -- where there is room for some and others, there is for the some
  pub first : (s : S) (xs ys : List PendingTransition) → room s (xs ++ ys) → room s xs
  -- and after them for the others
  pub next : (s t : S) (xs ys : List PendingTransition) → room s (xs ++ ys) → takes s xs t → room t ys
  -- the one and then the other is both
  pub both : (s t u : S) (xs ys : List PendingTransition) → room s (xs ++ ys) → takes s xs t → takes t ys u → takes s (xs ++ ys) u

-- ---- A count
pub counting_laws : SinkLaws (λ (s : Counting) (es : List PendingTransition). s.0 + length es < 18446744073709551616)
    (λ (s : Counting) (es : List PendingTransition) (t : Counting). t.0 ≡ s.0 + length es)
counting_laws = record {
  none = λ s. omega arith;
  first = λ s xs ys h. omega (arith, h, length-append xs ys);
  next = λ s t xs ys h p. omega (arith, h, p, length-append xs ys);
  both = λ s t u xs ys h p q. omega (arith, p, q, length-append xs ys);
}

-- ---- A log that is written: they stand from its place on, which moves on by as many; its log is the one that was lent to it
pub record Writes (s : Writing) (es : List PendingTransition) (t : Writing) : Type 0 where
  pub count : t.at ≡ s.at + length es
  pub content : Written s.log.now s.at es t.log.now
  pub log : t.log.ghost_name ≡ s.log.ghost_name

pub writing_laws : SinkLaws (λ (s : Writing) (es : List PendingTransition). 7 * (s.at + length es) ≤ length s.log.now) Writes
writing_laws = record {
  none = λ s. record { count = omega arith; content = written_none s.log.now s.at; log = refl };
  first = λ s xs ys h. omega (arith, h, length-append xs ys);
  next = λ s t xs ys h p. omega (arith, h, p.count, p.content.long, length-append xs ys);
  both = λ s t u xs ys h p q. record {
    count = omega (arith, p.count, q.count, length-append xs ys);
    content = written_then h p.content (rw p.count at q.content);
    log = q.log ∙ p.log;
  };
}
