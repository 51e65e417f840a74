-- The path to each native, written by hand from docs/API.md in its order: no line is read off the rows of the table.
use Rattle.std.specs.Prelude.{ℕ, List, [], ◌∷◌, ◌++◌, codes}
use Rattle.permitted_table.specs.declared.native.NativeId.{NativeId}
use Rattle.permitted_table.specs.declared.native.NativeId.TheVariants as native
use Rattle.permitted_table.specs.declared.native.GlobalNative.TheVariants as global
use Rattle.permitted_table.specs.declared.native.MathNative.TheVariants as math
use Rattle.permitted_table.specs.declared.native.PrototypeNative.TheVariants as prototype
use Rattle.permitted_table.specs.declared.native.TextNative.TheVariants as text
use Rattle.permitted_table.specs.declared.native.ListNative.TheVariants as list
use Rattle.permitted_table.specs.declared.native.AdsafeNative.TheVariants as adsafe
use Rattle.permitted_table.specs.declared.native.DomNative.TheVariants as dom
use Rattle.permitted_table.specs.declared.native.ReadNative.TheVariants as read
use Rattle.permitted_table.specs.declared.native.WriteNative.TheVariants as write

-- A line of the list: the path, and the native to which it leads.
abbrev pub Line : Type 0
Line = List ℕ × NativeId

-- the listed globals, and `String.fromCharCode`
abbrev pub globals : List Line
globals =
    (codes "Boolean", native.Global global.BooleanOf)
    ∷ (codes "Number", native.Global global.NumberOf)
    ∷ (codes "String", native.Global global.StringOf)
    ∷ (codes "isNaN", native.Global global.IsNaN)
    ∷ (codes "isFinite", native.Global global.IsFinite)
    ∷ (codes "parseInt", native.Global global.ParseInt)
    ∷ (codes "String.fromCharCode", native.Global global.FromCharCode) ∷ []

-- the functions on numbers
abbrev pub of_math : List Line
of_math =
    (codes "Math.abs", native.Math math.Abs)
    ∷ (codes "Math.ceil", native.Math math.Ceil)
    ∷ (codes "Math.floor", native.Math math.Floor)
    ∷ (codes "Math.round", native.Math math.Round)
    ∷ (codes "Math.max", native.Math math.Max)
    ∷ (codes "Math.min", native.Math math.Min)
    ∷ (codes "Math.pow", native.Math math.Pow) ∷ []

-- what objects and functions have, and the texts of values
abbrev pub of_values : List Line
of_values =
    (codes "object.hasOwnProperty", native.Prototype prototype.HasOwnProperty)
    ∷ (codes "object.toString", native.Prototype prototype.ObjectToString)
    ∷ (codes "function.toString", native.Prototype prototype.FunctionToString)
    ∷ (codes "number.toString", native.Prototype prototype.NumberToString)
    ∷ (codes "truth.toString", native.Prototype prototype.BooleanToString)
    ∷ (codes "text.toString", native.Prototype prototype.TextToString)
    ∷ (codes "array.toString", native.Prototype prototype.ArrayToString) ∷ []

-- the methods of texts
abbrev pub of_texts : List Line
of_texts =
    (codes "text.charAt", native.Text text.CharAt)
    ∷ (codes "text.charCodeAt", native.Text text.CharCodeAt)
    ∷ (codes "text.indexOf", native.Text text.IndexOf)
    ∷ (codes "text.lastIndexOf", native.Text text.LastIndexOf)
    ∷ (codes "text.slice", native.Text text.TextSlice)
    ∷ (codes "text.substring", native.Text text.Substring)
    ∷ (codes "text.split", native.Text text.Split)
    ∷ (codes "text.concat", native.Text text.TextConcat)
    ∷ (codes "text.toLowerCase", native.Text text.ToLowerCase)
    ∷ (codes "text.toUpperCase", native.Text text.ToUpperCase) ∷ []

-- the methods of arrays
abbrev pub of_arrays : List Line
of_arrays =
    (codes "array.push", native.List list.Push)
    ∷ (codes "array.pop", native.List list.Pop)
    ∷ (codes "array.unshift", native.List list.Unshift)
    ∷ (codes "array.shift", native.List list.Shift)
    ∷ (codes "array.splice", native.List list.Splice)
    ∷ (codes "array.slice", native.List list.ListSlice)
    ∷ (codes "array.concat", native.List list.ListConcat)
    ∷ (codes "array.join", native.List list.Join)
    ∷ (codes "array.reverse", native.List list.Reverse)
    ∷ (codes "array.sort", native.List list.Sort)
    ∷ (codes "array.forEach", native.List list.ForEach)
    ∷ (codes "array.map", native.List list.MapNative)
    ∷ (codes "array.filter", native.List list.FilterNative) ∷ []

-- the host's functions
abbrev pub of_adsafe : List Line
of_adsafe =
    (codes "ADSAFE.get", native.Adsafe adsafe.GetProperty)
    ∷ (codes "ADSAFE.set", native.Adsafe adsafe.SetProperty)
    ∷ (codes "ADSAFE.has", native.Adsafe adsafe.HasProperty)
    ∷ (codes "ADSAFE.remove", native.Adsafe adsafe.RemoveProperty)
    ∷ (codes "ADSAFE.keys", native.Adsafe adsafe.KeysOf)
    ∷ (codes "ADSAFE.create", native.Adsafe adsafe.Create)
    ∷ (codes "ADSAFE.isArray", native.Adsafe adsafe.IsArray)
    ∷ (codes "ADSAFE.log", native.Adsafe adsafe.LogValue)
    ∷ (codes "ADSAFE.later", native.Adsafe adsafe.Later)
    ∷ (codes "ADSAFE.post", native.Adsafe adsafe.Post)
    ∷ (codes "ADSAFE.fromJson", native.Adsafe adsafe.FromJson)
    ∷ (codes "ADSAFE.toJson", native.Adsafe adsafe.ToJson) ∷ []

-- what the script of a widget is handed
abbrev pub of_dom : List Line
of_dom =
    (codes "dom.q", native.Dom dom.DomQuery)
    ∷ (codes "dom.tag", native.Dom dom.DomTag)
    ∷ (codes "dom.text", native.Dom dom.DomText)
    ∷ (codes "dom.append", native.Dom dom.DomAppend) ∷ []

-- the methods of Bunches that find and read
abbrev pub of_bunches : List Line
of_bunches =
    (codes "bunch.q", native.Read read.Query)
    ∷ (codes "bunch.count", native.Read read.Count)
    ∷ (codes "bunch.explode", native.Read read.Explode)
    ∷ (codes "bunch.getValue", native.Read read.GetValue)
    ∷ (codes "bunch.getValues", native.Read read.GetValues)
    ∷ (codes "bunch.getCheck", native.Read read.GetCheck)
    ∷ (codes "bunch.getClass", native.Read read.GetClass)
    ∷ (codes "bunch.getTitle", native.Read read.GetTitle)
    ∷ (codes "bunch.getStyle", native.Read read.GetStyle)
    ∷ (codes "bunch.getTagName", native.Read read.GetTagName)
    ∷ (codes "bunch.getMark", native.Read read.GetMark)
    ∷ (codes "bunch.getParent", native.Read read.GetParent) ∷ []

-- the methods of Bunches that change something, or ask for calls
abbrev pub of_changes : List Line
of_changes =
    (codes "bunch.value", native.Write write.SetValue)
    ∷ (codes "bunch.klass", native.Write write.SetClass)
    ∷ (codes "bunch.title", native.Write write.SetTitle)
    ∷ (codes "bunch.style", native.Write write.SetStyle)
    ∷ (codes "bunch.check", native.Write write.SetCheck)
    ∷ (codes "bunch.enable", native.Write write.SetEnabled)
    ∷ (codes "bunch.append", native.Write write.Append)
    ∷ (codes "bunch.remove", native.Write write.Remove)
    ∷ (codes "bunch.empty", native.Write write.Empty)
    ∷ (codes "bunch.replace", native.Write write.Replace)
    ∷ (codes "bunch.on", native.Write write.On)
    ∷ (codes "bunch.off", native.Write write.Off)
    ∷ (codes "bunch.fire", native.Write write.Fire)
    ∷ (codes "bunch.each", native.Write write.Each)
    ∷ (codes "bunch.mark", native.Write write.SetMark)
    ∷ (codes "bunch.focus", native.Write write.Focus)
    ∷ (codes "bunch.blur", native.Write write.Blur)
    ∷ (codes "bunch.protect", native.Write write.Protect) ∷ []

-- the whole list; an event object has `bubble`
abbrev pub listed : List Line
listed = globals ++ of_math ++ of_values ++ of_texts ++ of_arrays ++ of_adsafe ++ of_dom ++ of_bunches ++ of_changes
