-- A chain of steps and its code: where the code goes on from a step, the chain is what follows; where it stops, so does the chain.
use Rattle.std.proofs.Common.{◌≡◌, ℕ, ◌≤◌, ap, ◌∙◌, Ok, Err, inl, inr, arith, subst, sym}
use Rattle.std.specs.Prelude.{Option, Result}
use Rattle.wp_edge.specs.Faults.{Rose}
use Rattle.wp_edge.specs.Fetch.{Contents}
use Rattle.wp_app.specs.Steps.{Step, goes, ◌>>=◌}
use Rattle.wp_app.specs.Stops.{Gives, IsReadFault, Meets, Follows}
use Rattle.wp_app.specs.declared.stop.Stop.{Stop}
use Rattle.wp_app.specs.declared.stop.Stop.TheVariants.{Ends, ReadFault, Memory}

-- a stop of a step is that of the chain
gives_stop : {A B : Type 0} (step : Step A) (next : A → Step B) (stop : Stop) → Gives {A = A} step (Err stop) → Gives {A = B} (step >>= next) (Err stop)
gives_stop step next (Ends reply) e = ap (λ s. s >>= next) e
gives_stop step next (ReadFault part) e = tt
gives_stop step next Memory e = tt

-- what follows a value is the chain
gives_next : {A B : Type 0} (step : Step A) (next : A → Step B) (value : A) (result : Result B Stop) → step ≡ goes value → Gives {A = B} (next value) result → Gives {A = B} (step >>= next) result
gives_next {B = B} step next value result e given = subst (λ (s : Step B). Gives s result) (sym (ap (λ s. s >>= next) e)) given

unread_stop : (A B : Type 0) (stop : Stop) → IsReadFault {A = B} (Err stop) → IsReadFault {A = A} (Err stop)
unread_stop A B (Ends reply) h = h
unread_stop A B (ReadFault part) h = h
unread_stop A B Memory h = h

rose_since : (before mid now : ℕ) → before ≤ mid → Rose mid now → Rose before now
rose_since before mid now later rose = omega arith

pub stops : {A B : Type 0} {contents : Option Contents} {step : Contents → Step A} {before now : ℕ} {stop : Stop} (next : Contents → A → Step B) → Follows {A = A} contents step before now (Err stop) → Follows {A = B} contents (λ files. step files >>= next files) before now (Err stop)
stops {A} {B} {contents} {step} {before} {now} {stop} next follows = record {
  defined = follows.defined;
  gives = λ files told. gives_stop (step files) (next files) stop (follows.gives files told);
  fault = λ unread. elim (follows.fault (unread_stop A B stop unread)) [
    | inl rose ↦ inl rose
    | inr at ↦ inr (at.0, at.1, ap (λ s. s >>= next at.0) at.2)
  ];
}

pub stops_unread : {A B : Type 0} {contents : Option Contents} {step : Step A} {before now : ℕ} {stop : Stop} (next : Contents → A → Step B) → Meets {A = A} step (Err stop) → Follows {A = B} contents (λ files. step >>= next files) before now (Err stop)
stops_unread {A} {B} {contents} {step} {before} {now} {stop} next meets = record {
  defined = meets.defined;
  gives = λ files told. gives_stop step (next files) stop meets.gives;
  fault = λ unread. absurd (meets.read (unread_stop A B stop unread));
}

pub goes_on : {A B : Type 0} {contents mid_contents : Option Contents} {step : Contents → Step A} {before mid now : ℕ} {value : A} {result : Result B Stop} (next : Contents → A → Step B) → Follows {A = A} contents step before mid (Ok value) → mid_contents ≡ contents → before ≤ mid → Follows {A = B} mid_contents (λ files. next files value) mid now result → Follows {A = B} contents (λ files. step files >>= next files) before now result
goes_on {contents = contents} {step = step} {before = before} {mid = mid} {now = now} {value = value} {result = result} next follows same later rest = record {
  defined = rest.defined;
  gives = λ files told. gives_next (step files) (next files) value result (follows.gives files told) (rest.gives files (same ∙ told));
  fault = λ unread. elim (rest.fault unread) [
    | inl rose ↦ inl (rose_since before mid now later rose)
    | inr at ↦ inr (at.0, sym same ∙ at.1, ap (λ s. s >>= next at.0) (follows.gives at.0 (sym same ∙ at.1)) ∙ at.2)
  ];
}

pub goes_on_unread : {A B : Type 0} {contents : Option Contents} {step : Step A} {before now : ℕ} {value : A} {result : Result B Stop} (next : Contents → A → Step B) → Meets {A = A} step (Ok value) → Follows {A = B} contents (λ files. next files value) before now result → Follows {A = B} contents (λ files. step >>= next files) before now result
goes_on_unread {contents = contents} {step = step} {before = before} {now = now} {value = value} {result = result} next meets rest = record {
  defined = rest.defined;
  gives = λ files told. gives_next step (next files) value result meets.gives (rest.gives files told);
  fault = λ unread. elim (rest.fault unread) [
    | inl rose ↦ inl rose
    | inr at ↦ inr (at.0, at.1, ap (λ s. s >>= next at.0) meets.gives ∙ at.2)
  ];
}

-- a step over the files and then one that reads none
pub goes_on_to : {A B : Type 0} {contents : Option Contents} {step : Contents → Step A} {before now : ℕ} {value : A} {result : Result B Stop} (next : A → Step B) → Follows {A = A} contents step before now (Ok value) → Meets {A = B} (next value) result → Follows {A = B} contents (λ files. step files >>= next) before now result
goes_on_to {step = step} {value = value} {result = result} next follows rest = record {
  defined = rest.defined;
  gives = λ files told. gives_next (step files) next value result (follows.gives files told) rest.gives;
  fault = λ unread. absurd (rest.read unread);
}

-- the same of steps of which none reads a file
pub meets_next : {A B : Type 0} {step : Step A} {value : A} {result : Result B Stop} (next : A → Step B) → Meets {A = A} step (Ok value) → Meets {A = B} (next value) result → Meets {A = B} (step >>= next) result
meets_next {step = step} {value = value} {result = result} next meets rest = record {
  defined = rest.defined;
  gives = gives_next step next value result meets.gives rest.gives;
  read = rest.read;
}

pub meets_stop : {A B : Type 0} {step : Step A} {stop : Stop} (next : A → Step B) → Meets {A = A} step (Err stop) → Meets {A = B} (step >>= next) (Err stop)
meets_stop {A} {B} {step} {stop} next meets = record {
  defined = meets.defined;
  gives = gives_stop step next stop meets.gives;
  read = λ unread. meets.read (unread_stop A B stop unread);
}

-- a step that reads no file, as one over the files
pub meets_follows : {A : Type 0} {contents : Option Contents} {step : Step A} {before now : ℕ} {result : Result A Stop} → Meets {A = A} step result → Follows {A = A} contents (λ files. step) before now result
meets_follows meets = record {
  defined = meets.defined;
  gives = λ files told. meets.gives;
  fault = λ unread. absurd (meets.read unread);
}
