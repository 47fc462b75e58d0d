-- Which commands only look at the stores, which draw a token, and which refusals are for want of memory.
use Rattle.std.specs.Prelude.{Bool, true, false}
use Rattle.dav_path_core.specs.declared.errors.FsError.TheVariants.{InsufficientStorage}
use Rattle.dav_guarded_core.specs.Requests.{Command, Refusal, Fs, OutOfMemory}

-- the command changes nothing
abbrev pub is_look : Command → Bool
is_look (Command.Read path at count) = true
is_look (Command.List path) = true
is_look (Command.Meta path) = true
is_look (Command.GetProps path content) = true
is_look (Command.GetProp path wanted) = true
is_look (Command.Discover path) = true
is_look (Command.Check path deep) = true
is_look _ = false

-- where it is done, a lock was granted, and its token drawn
abbrev pub grants : Command → Bool
grants (Command.Lock path owner timeout shared deep) = true
grants _ = false

-- the refusal is for want of memory
abbrev pub lacks_memory : Refusal → Bool
lacks_memory (Fs InsufficientStorage) = true
lacks_memory OutOfMemory = true
lacks_memory _ = false
