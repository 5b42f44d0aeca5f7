-- A reply that fits is taken whole. Assumes nothing.
use Prim.Native.Nat.{ℕ, ◌≤◌}
use mathlib.Core.Path.{◌≡◌}
use mathlib.Core.List.{List}
use lib.ListN.{length}
use borrow.Author.Tests.{le-ltb}
use Rattle.reply_form.specs.Replies.{fitted}

pub fitted_whole : (room : ℕ) (reply : List ℕ) → length reply ≤ room → fitted room reply ≡ reply
fitted_whole room reply h = rw (le-ltb room (length reply) h)
