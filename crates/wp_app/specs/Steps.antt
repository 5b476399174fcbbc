-- A run as a row of steps, each of which goes on with a value, ends with a reply, or misses a file.
use Rattle.std.specs.Prelude.{Option, None, Some}
use Rattle.wp_app.specs.declared.reply.Reply.{Reply}

pub data Step (A : Type 0) : Type 0 where
  missing : Step A  -- a file is not there, and nothing is answered
  ends : Reply → Step A  -- this is the reply
  goes : A → Step A  -- no reply yet

infixl 10 ◌>>=◌
abbrev pub ◌>>=◌ : {A B : Type 0} → Step A → (A → Step B) → Step B
missing >>= next = missing
(ends reply) >>= next = ends reply
(goes value) >>= next = next value

-- the reply of a run, where no file is missing
abbrev pub reply_of : Step Reply → Option Reply
reply_of missing = None
reply_of (ends reply) = Some reply
reply_of (goes reply) = Some reply
