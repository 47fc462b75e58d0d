-- Requests and answers of the code as plain data, without where they lie in memory.
use Rattle.std.specs.Prelude.{map, option_map, string_bytes, Result, Ok, Err}
use Rattle.dav_path_core.specs.Segments.{segments}
use Rattle.dav_files_core.specs.Listing.{listed_entry}
use Rattle.dav_files_core.specs.Meta.{meta_of}
use Rattle.dav_files_core.specs.Properties.{property_of, patch_update as patch_of, patch_answer as patched_of}
use Rattle.dav_guarded_core.specs.declared.guarded.requests.Command.{Command}
use Rattle.dav_guarded_core.specs.declared.guarded.requests.Command.TheVariants.{Put, Write, Read, List, Meta, MkCol, Remove, Move, Copy, PatchProps, GetProps, GetProp, Lock, Unlock, Refresh, Discover, Check}
use Rattle.dav_guarded_core.specs.declared.guarded.requests.Request.{Request}
use Rattle.dav_guarded_core.specs.declared.guarded.requests.Reply.{Reply}
use Rattle.dav_guarded_core.specs.declared.guarded.requests.Reply.TheVariants.{Done, Bytes, Entries, Meta as Known, Patched, Props, Value, Lock as Granted, Locks}
use Rattle.dav_guarded_core.specs.declared.guarded.requests.Refusal.{Refusal}
use Rattle.dav_guarded_core.specs.declared.guarded.requests.Refusal.TheVariants.{Fs, Locked, NoLock, OutOfMemory}
use Rattle.dav_guarded_core.specs.Requests as plain

abbrev pub command_of : Command → plain.Command
command_of (Put path bytes) = plain.Command.Put (segments path.bytes) bytes
command_of (Write path at bytes) = plain.Command.Write (segments path.bytes) at bytes
command_of (Read path at count) = plain.Command.Read (segments path.bytes) at count
command_of (List path) = plain.Command.List (segments path.bytes)
command_of (Meta path) = plain.Command.Meta (segments path.bytes)
command_of (MkCol path) = plain.Command.MkCol (segments path.bytes)
command_of (Remove path) = plain.Command.Remove (segments path.bytes)
command_of (Move from to) = plain.Command.Move (segments from.bytes) (segments to.bytes)
command_of (Copy from to) = plain.Command.Copy (segments from.bytes) (segments to.bytes)
command_of (PatchProps path patch) = plain.Command.PatchProps (segments path.bytes) (map patch_of patch.items)
command_of (GetProps path content) = plain.Command.GetProps (segments path.bytes) content
command_of (GetProp path wanted) = plain.Command.GetProp (segments path.bytes) (property_of wanted)
command_of (Lock path owner timeout shared deep) = plain.Command.Lock path (option_map string_bytes owner) timeout shared deep
command_of (Unlock path token) = plain.Command.Unlock (segments path.bytes) (string_bytes token)
command_of (Refresh path token timeout) = plain.Command.Refresh (segments path.bytes) (string_bytes token) timeout
command_of (Discover path) = plain.Command.Discover (segments path.bytes)
command_of (Check path deep) = plain.Command.Check (segments path.bytes) deep

abbrev pub request_of : Request → plain.Request
request_of r = record {
  principal = option_map string_bytes r.principal;
  tokens = map string_bytes r.tokens.items;
  now = r.now.0;
  command = command_of r.command;
}

abbrev pub reply_of : Reply → plain.Reply
reply_of Done = plain.Done
reply_of (Bytes bytes) = plain.Bytes bytes
reply_of (Entries entries) = plain.Entries (map listed_entry entries.items)
reply_of (Known meta) = plain.Meta (meta_of meta)
reply_of (Patched answers) = plain.Patched (map patched_of answers.items)
reply_of (Props props) = plain.Props (map property_of props.items)
reply_of (Value xml) = plain.Value xml.items
reply_of (Granted lock) = plain.Granted lock
reply_of (Locks locks) = plain.Locks locks.items

abbrev pub refusal_of : Refusal → plain.Refusal
refusal_of (Fs e) = plain.Fs e
refusal_of (Locked lock) = plain.Locked lock
refusal_of NoLock = plain.NoLock
refusal_of OutOfMemory = plain.OutOfMemory

abbrev pub answer_of : Result Reply Refusal → plain.Answer
answer_of (Ok reply) = Ok (reply_of reply)
answer_of (Err refusal) = Err (refusal_of refusal)
