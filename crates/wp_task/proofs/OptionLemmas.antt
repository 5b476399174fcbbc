-- What is weaker holds of an answer as well.
use Rattle.std.proofs.Common.{Option, Some, None}
use Rattle.std.specs.Prelude.{IfSome, IfNone}

pub IfSome-weaker : {X : Type 0} (P Q : X → Type 0) → ((x : X) → P x → Q x) → (o : Option X) → IfSome o P → IfSome o Q
IfSome-weaker P Q weaker None h = tt
IfSome-weaker P Q weaker (Some x) h = weaker x h

pub IfNone-weaker : {X : Type 0} (P Q : Type 0) → (P → Q) → (o : Option X) → IfNone o P → IfNone o Q
IfNone-weaker P Q weaker None h = weaker h
IfNone-weaker P Q weaker (Some x) h = tt
